pub mod Files
pub mod HexDigits
pub mod Joins
pub mod Rows
pub mod Longest

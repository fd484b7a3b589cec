pub mod Lengths
pub mod Layouts
pub mod Fields
pub mod Records
pub mod Found

pub mod Fed
pub mod Backward
pub mod Plain
pub mod Held
pub mod Turns
pub mod Follows
pub mod Parts

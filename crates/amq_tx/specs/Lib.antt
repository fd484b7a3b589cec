pub mod State
pub mod Parts
pub mod Tables
pub mod Refusing
pub mod Applying
pub mod Starting
pub mod Follows

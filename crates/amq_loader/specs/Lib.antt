pub mod Loads
pub mod Faults
pub mod Causes
pub mod Parts
pub mod Bases
pub mod Asked

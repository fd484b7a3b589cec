pub mod Prepare
pub mod Faults
pub mod Pools

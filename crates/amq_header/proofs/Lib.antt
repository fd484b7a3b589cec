pub mod Endings
pub mod Spelled
pub mod Made
pub mod Exclusive
pub mod HeaderLaws
pub mod Examples

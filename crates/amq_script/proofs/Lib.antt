pub mod Extending
pub mod Pairs
pub mod Letters
pub mod Members
pub mod Sections
pub mod Progress
pub mod Rows
pub mod Grammar

pub mod Backward
pub mod Lists
pub mod TurnLaws
pub mod TableLaws
pub mod EntryLaws
pub mod TouchedLaws
pub mod HeldLaws
pub mod OpenLaws

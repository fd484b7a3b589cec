pub mod Preparing
pub mod Numbers
pub mod Contents
pub mod Nothing
pub mod Queue
pub mod Examples

pub mod Entries
pub mod Horner
pub mod RowFilling
pub mod Searches
pub mod Steps
pub mod Writing

pub mod BuiltIn
pub mod Faults
pub mod Meaning
pub mod Tables
pub mod Tests
pub mod Written
pub mod Rows

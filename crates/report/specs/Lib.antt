pub mod Meanings
pub mod Reports

pub mod Accounts
pub mod Splits
pub mod VerdictLines

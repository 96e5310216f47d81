pub mod Changes
pub mod Ends
pub mod Fractions
pub mod Holding
pub mod Ledger
pub mod Recorded
pub mod Totals
pub mod Verdicts

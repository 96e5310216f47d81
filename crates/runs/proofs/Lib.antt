pub mod Bands
pub mod Changes
pub mod Comparison
pub mod Judging
pub mod Loads
pub mod Sizes
pub mod Terms

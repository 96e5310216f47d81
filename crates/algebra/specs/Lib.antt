pub mod Divisors
pub mod Sums
pub mod Weights

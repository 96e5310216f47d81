pub mod Histories
pub mod Laws
pub mod Polynomials
pub mod Replays
pub mod Witnesses

pub mod Bands
pub mod Cases
pub mod Keeping
pub mod Piles
pub mod Replaying
pub mod Settling
pub mod Witnesses

pub mod Records
pub mod Weights
pub mod Replays

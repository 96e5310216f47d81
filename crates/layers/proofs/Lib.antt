pub mod Filling
pub mod Keeps
pub mod Making
pub mod Piling

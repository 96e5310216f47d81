pub mod Readings
pub mod Tellings

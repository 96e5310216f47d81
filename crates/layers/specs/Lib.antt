pub mod Filled
pub mod Layers
pub mod Sizing

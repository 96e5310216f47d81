pub mod Channels
pub mod Elements
pub mod Floats
pub mod Forces
pub mod Kinds
pub mod Numbers
pub mod Sounds

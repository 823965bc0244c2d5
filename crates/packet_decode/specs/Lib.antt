pub mod Frame
pub mod Layers
pub mod Spelled
pub mod Tags

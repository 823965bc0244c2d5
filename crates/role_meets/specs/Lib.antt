pub mod Parts
pub mod Meets

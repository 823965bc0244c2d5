pub mod Coming
pub mod Leaving
mod Examples

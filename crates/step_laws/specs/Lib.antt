pub mod Beginning
pub mod Adding
pub mod Staying
pub mod Passing
pub mod Leaving

pub mod Serving
pub mod Recycling
pub mod Draining

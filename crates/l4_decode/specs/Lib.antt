pub mod Spelled
pub mod Transport

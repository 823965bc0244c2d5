pub mod Standing
pub mod Places
pub mod Telling
pub mod Looking
pub mod Batching
pub mod Working

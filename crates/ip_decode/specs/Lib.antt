pub mod Extensions
pub mod Ip
pub mod Spelled4
pub mod Spelled6

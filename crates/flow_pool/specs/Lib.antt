pub mod Counting
pub mod Fixed
pub mod Pool

pub mod Expiry
pub mod Table

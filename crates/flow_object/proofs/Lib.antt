pub mod Absorbing
pub mod Beginning
pub mod Payloads
pub mod Settling

pub mod Accounted
pub mod Bounds
pub mod Complete
pub mod Naming
pub mod OneChoice
pub mod Outputs
pub mod Quiet
pub mod Sending

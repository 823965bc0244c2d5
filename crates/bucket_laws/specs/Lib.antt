pub mod Counts
pub mod Draining
pub mod Ends
pub mod Keys
pub mod Leaving
pub mod Naming
pub mod Nodes
pub mod Places

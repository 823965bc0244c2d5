pub mod Kept
pub mod Members
pub mod Nodes
pub mod Parts
pub mod Stretches

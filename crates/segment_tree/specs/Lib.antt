pub mod Order
pub mod Reads
pub mod Spots
pub mod Tree

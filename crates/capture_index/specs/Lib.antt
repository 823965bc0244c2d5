pub mod Batches
pub mod ByKeys
pub mod Decode
pub mod Index
pub mod Links
pub mod Order
pub mod Pieces
pub mod Short

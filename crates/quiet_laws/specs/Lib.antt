pub mod Calm
pub mod Plainly
pub mod Pieces
pub mod Counts

pub mod Fronts
mod Pieces
mod Streams

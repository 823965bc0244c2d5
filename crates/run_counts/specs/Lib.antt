pub mod Adding
pub mod Counting
pub mod Frames
pub mod Records

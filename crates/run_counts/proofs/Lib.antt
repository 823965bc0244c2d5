mod Counting
mod Recording
mod Summing
mod Telling
pub mod Adding
pub mod Naming
mod Answered
mod Bearing
pub mod Whole

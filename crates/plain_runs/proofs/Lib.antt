pub mod Counting
pub mod Covering
pub mod Ending
mod Examples
pub mod Growing
pub mod Same

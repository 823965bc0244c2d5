pub mod Closing
pub mod Judging
pub mod Recording
pub mod Gathering

pub mod Whole
pub mod Puts
pub mod Last
pub mod Telling
pub mod Lawful
pub mod Closed
pub mod Waiting
pub mod Beginning

pub mod Telling
pub mod Aging

pub mod Meetings
pub mod Telling

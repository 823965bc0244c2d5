pub mod Notes
pub mod Report
pub mod Run
pub mod Words
pub mod Quiet

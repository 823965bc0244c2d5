pub mod Measures
pub mod Asking
pub mod Others
pub mod Needing
pub mod Answered
pub mod Asked
pub mod Limits

pub mod Ends
pub mod SoFar
pub mod SpelledFrame
pub mod SpelledWhole
pub mod Transports
pub mod Way
pub mod Worked

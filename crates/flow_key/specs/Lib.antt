pub mod Ends
pub mod Keyed
pub mod Pairs
pub mod SameFlow

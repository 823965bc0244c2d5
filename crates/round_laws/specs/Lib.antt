pub mod Playing
pub mod Cuts
pub mod Rising
pub mod Between
pub mod Later
pub mod Leaving

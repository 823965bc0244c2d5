pub mod Finishing
pub mod Holding
pub mod Items
pub mod LettingGo
pub mod Stepping
pub mod Staying

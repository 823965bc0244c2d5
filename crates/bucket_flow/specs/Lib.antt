pub mod Dues
pub mod Flows
pub mod Held

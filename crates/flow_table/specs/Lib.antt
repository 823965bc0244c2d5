pub mod Dues
pub mod Slots

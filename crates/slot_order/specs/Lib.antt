pub mod Order
pub mod Rows
pub mod Next
pub mod Index

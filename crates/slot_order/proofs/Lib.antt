pub mod Sorted
pub mod Rows
pub mod Next
pub mod Index

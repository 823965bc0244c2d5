pub mod Newest
pub mod Oldest
pub mod Orders
pub mod Reading
pub mod Trees

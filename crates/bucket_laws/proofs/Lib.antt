pub mod Answering
pub mod Cutting
pub mod Draining
pub mod Ending
mod Examples
pub mod Falling
pub mod Firsts
pub mod Following
pub mod Going
pub mod Leaving
pub mod Listing
pub mod Naming
pub mod Next
pub mod Nodes
pub mod Placing
pub mod Staying
pub mod Steps
pub mod Tests

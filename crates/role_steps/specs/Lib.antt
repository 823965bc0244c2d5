pub mod Roles
pub mod Calls
pub mod Items
pub mod Finishing

pub mod Handing
pub mod Closing
pub mod Accounts
pub mod Leaving
pub mod Quiet

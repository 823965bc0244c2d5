pub mod Flow
pub mod Keys
pub mod Orders
pub mod Finding
pub mod Laws

pub mod Flows
pub mod Order
pub mod Symmetry
pub mod Tags

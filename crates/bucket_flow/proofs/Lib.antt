pub mod Captured
pub mod FlowMap
pub mod Small

pub mod Draining
pub mod Queues
pub mod Serving

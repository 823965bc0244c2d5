pub mod Capture
pub mod Conversation
pub mod Frame
pub mod Packet
pub mod Plan
pub mod Web

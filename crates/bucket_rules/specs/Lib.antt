pub mod Fixing
pub mod Own
pub mod Packets
pub mod Row
pub mod Rule
pub mod Sound
pub mod Streams

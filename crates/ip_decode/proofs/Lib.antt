pub mod Packet
pub mod Upper
pub mod Spelled4
pub mod Spelled6
pub mod Worked

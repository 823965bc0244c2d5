pub mod PoolHistories
pub mod Worked

pub mod Bucket
pub mod Fixing
pub mod Lasting
pub mod LetGo
pub mod Stands

pub mod Community

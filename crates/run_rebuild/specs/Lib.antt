pub mod Rebuilds
pub mod ShardNumbers
pub mod Steps

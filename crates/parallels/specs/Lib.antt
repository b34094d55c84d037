pub mod Parallels
pub mod Queries

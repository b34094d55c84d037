pub mod Arcs
pub mod Circles
pub mod Queries

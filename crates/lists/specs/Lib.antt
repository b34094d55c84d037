pub mod Cyclic
pub mod Counts

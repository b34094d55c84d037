pub mod Record
pub mod Theorem
pub mod Doubles

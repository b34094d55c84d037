pub mod Domain
pub mod Checks

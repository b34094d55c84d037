pub mod Costliest

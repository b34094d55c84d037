pub mod Poles

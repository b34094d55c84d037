pub mod Numbers
pub mod Outline
pub mod Costliest

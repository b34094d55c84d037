pub mod Whole
pub mod WholeRoot
pub mod Root
pub mod Rounded

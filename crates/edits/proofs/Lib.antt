pub mod Checked
pub mod Moved
pub mod Neighbours

pub mod Ranging
pub mod Drawing
pub mod Corners

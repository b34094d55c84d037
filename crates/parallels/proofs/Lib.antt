pub mod Given
pub mod Sides
pub mod Ends
pub mod First

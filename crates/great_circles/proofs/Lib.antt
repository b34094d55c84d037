pub mod Head
pub mod Numbers
pub mod Given

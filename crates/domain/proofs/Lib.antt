pub mod Counts
pub mod Points
pub mod Handed
pub mod Inside

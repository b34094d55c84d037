pub mod Passing
pub mod Cyclic
pub mod Shifts
pub mod All
pub mod Many
pub mod Odd
pub mod Alternating

pub mod Legal
pub mod Good
pub mod One
pub mod Parity
pub mod Turned
pub mod Theorem
pub mod Made

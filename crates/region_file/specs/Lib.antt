pub mod Bytes
pub mod File
pub mod RoundTrips
pub mod Readers

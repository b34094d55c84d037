pub mod Zone

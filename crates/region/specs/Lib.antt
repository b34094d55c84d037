pub mod Edges
pub mod View
pub mod Poles
pub mod Region
pub mod Made

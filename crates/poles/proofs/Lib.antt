pub mod Normals
pub mod Edges
pub mod Poles
pub mod Worked

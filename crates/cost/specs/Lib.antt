pub mod RangeCount
pub mod Outline

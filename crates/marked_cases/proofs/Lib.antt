pub mod OneCorner
pub mod Cases

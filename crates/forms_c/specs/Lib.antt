pub mod Answered
pub mod Crossing

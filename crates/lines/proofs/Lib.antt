pub mod Factors
pub mod Lines

pub mod Asked
pub mod Estimates
pub mod Selecting
pub mod Weighings

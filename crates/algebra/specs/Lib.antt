pub mod Interval
pub mod Centre
pub mod Sizes

pub mod Exactly
pub mod Rows
pub mod Layering
pub mod Choosing

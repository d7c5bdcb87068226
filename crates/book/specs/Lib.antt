pub mod Grounds
pub mod Limits
pub mod Rule
pub mod Stored
pub mod Keying

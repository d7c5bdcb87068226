pub mod Reading
pub mod Centring

pub mod Cut
pub mod Spaced

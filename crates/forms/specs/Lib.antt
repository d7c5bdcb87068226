pub mod Told
pub mod Held
pub mod Centred

pub mod Message
pub mod Jh

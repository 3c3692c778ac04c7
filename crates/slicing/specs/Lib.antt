pub mod Halves
pub mod Places
pub mod Constants

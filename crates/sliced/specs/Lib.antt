pub mod Slices
pub mod State

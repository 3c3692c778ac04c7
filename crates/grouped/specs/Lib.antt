pub mod Chosen
pub mod Pairs

pub mod Holds
pub mod Stands

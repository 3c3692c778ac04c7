pub mod Rolls
pub mod Examples

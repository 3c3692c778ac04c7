pub mod Buffers
pub mod Seals
pub mod Rolls
pub mod Texts

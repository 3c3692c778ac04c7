pub mod Bits
pub mod Widths
pub mod Eight

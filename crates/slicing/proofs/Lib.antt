pub mod Bits
pub mod Exchange
pub mod Halves
pub mod BigEndian
pub mod Turns
pub mod Slices
pub mod Rule

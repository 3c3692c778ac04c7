pub mod Encodings
pub mod Order
pub mod Sought

pub mod Sizes
pub mod Unwinding

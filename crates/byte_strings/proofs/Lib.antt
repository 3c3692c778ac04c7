pub mod FromFn
pub mod Over
pub mod Xored
pub mod Strings

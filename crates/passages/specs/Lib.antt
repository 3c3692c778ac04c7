pub mod Fields
pub mod Coding
pub mod Rows
pub mod Laws

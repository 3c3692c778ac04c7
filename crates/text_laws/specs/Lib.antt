pub mod Lines
pub mod Values
pub mod Saved
pub mod Written
pub mod FirstLines
pub mod Valid
pub mod Laws

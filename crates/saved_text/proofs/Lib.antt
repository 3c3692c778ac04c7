pub mod Unfit
pub mod Turns
pub mod Laws
pub mod Parts

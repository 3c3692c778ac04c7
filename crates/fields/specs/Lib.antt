pub mod Options
pub mod Cuts
pub mod Decimals
pub mod Hex
pub mod Faults

pub mod Lines
pub mod Progress

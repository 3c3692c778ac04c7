pub mod Heard
pub mod Stands
pub mod Replays

pub mod Views
pub mod Snapshots

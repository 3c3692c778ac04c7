pub mod Fed
pub mod Report

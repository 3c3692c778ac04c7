pub mod Answering
pub mod Numbered
pub mod Rows

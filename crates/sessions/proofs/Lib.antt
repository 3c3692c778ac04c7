pub mod Digests
pub mod Replies

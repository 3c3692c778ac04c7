pub mod Courses
pub mod Told
pub mod Sessions

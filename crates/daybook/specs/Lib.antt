pub mod Contents
pub mod States
pub mod Daybook
pub mod Course

pub mod Shifts
pub mod Held
pub mod Changes
pub mod Searches

pub mod Kept
pub mod Schedule
pub mod Words

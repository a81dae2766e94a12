pub mod Checks
pub mod Bodies
pub mod Commits
pub mod Openings

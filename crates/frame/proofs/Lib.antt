pub mod Bounds
pub mod ByCuts
pub mod Examples

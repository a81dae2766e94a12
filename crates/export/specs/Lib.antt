pub mod Boundary
pub mod Packed

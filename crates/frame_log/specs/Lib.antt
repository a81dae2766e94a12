pub mod Hand
pub mod Buffers
pub mod Opening
pub mod Whole

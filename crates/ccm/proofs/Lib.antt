pub mod Blocks
pub mod Chains
pub mod Streams
pub mod Levels

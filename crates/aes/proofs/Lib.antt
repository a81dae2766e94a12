pub mod Products
pub mod Words
pub mod States
pub mod Turns
pub mod Expansion
pub mod Laws
pub mod Examples
mod Entries

pub mod Headers
pub mod Sizes
pub mod Puts
pub mod Written
pub mod Ends
pub mod Laws

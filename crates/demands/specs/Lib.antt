pub mod Round
pub mod Borders
pub mod Secrecy
pub mod Loading
pub mod Useless
pub mod Lines

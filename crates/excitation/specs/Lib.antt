pub mod Code
pub mod Refused
pub mod Reading

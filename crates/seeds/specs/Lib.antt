pub mod Generator
pub mod Halves

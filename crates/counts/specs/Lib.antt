pub mod Conditions
pub mod Agree

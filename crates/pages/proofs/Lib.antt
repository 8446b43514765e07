pub mod Pages
pub mod Digits
pub mod Signs
pub mod Unique

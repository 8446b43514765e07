pub mod Sheets
pub mod Text
pub mod Shape

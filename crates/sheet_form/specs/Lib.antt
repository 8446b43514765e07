pub mod Sections
pub mod Rows
pub mod Found
pub mod Sheets

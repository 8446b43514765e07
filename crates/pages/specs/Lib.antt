pub mod Added
pub mod Decimal
pub mod Page

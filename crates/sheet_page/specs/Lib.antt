pub mod Calls
pub mod Page

pub mod Code
pub mod Good
pub mod Table

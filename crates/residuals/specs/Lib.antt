pub mod Offset
pub mod Residual

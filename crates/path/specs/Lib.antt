pub mod Data
pub mod Path
pub mod Taken
pub mod Scaled

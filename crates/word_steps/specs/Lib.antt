pub mod Filter
pub mod Gains
pub mod Harmonic
pub mod Inlines
pub mod Tail

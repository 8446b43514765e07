-- LeftIn: what leaves has a place in the frame. Unique: each contract leaves one outcome.
pub mod LeftIn
pub mod Unique

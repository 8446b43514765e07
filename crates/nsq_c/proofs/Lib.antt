-- Kept: what the rows give back. Unique: one outcome.
pub mod Kept
pub mod Unique

-- Unique: each contract leaves one outcome.
pub mod Unique

-- Ties: of paths that cost the same the lowest is found. Unique: each contract leaves one outcome.
pub mod Ties
pub mod Unique

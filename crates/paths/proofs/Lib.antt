-- Turns: a turn in two steps. Unique: each contract leaves one outcome.
pub mod Turns
pub mod Unique

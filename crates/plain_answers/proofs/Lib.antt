-- Refused: the answer where a state's row is another. Unique: one outcome.
pub mod Refused
pub mod Unique

-- Laid: a state's words in a row. Unique: one outcome.
pub mod Laid
pub mod Unique

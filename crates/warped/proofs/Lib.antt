-- WarpedPairs: the warped filter in the Rust's own order of steps. WarpedWords: what it leaves as it was.
-- Unique: the contract leaves one outcome.
pub mod WarpedPairs
pub mod WarpedWords
pub mod Unique

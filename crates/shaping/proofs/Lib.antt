-- TapCount: how many taps a prediction has. Unique: each contract leaves one outcome.
pub mod TapCount
pub mod Unique

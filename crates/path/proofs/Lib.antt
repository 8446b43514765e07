-- Told: what owning a struct tells of its signed fields. Parts: equal words make equal structs. Unique: each contract leaves one outcome.
pub mod Parts
pub mod Told
pub mod Unique

-- Befores: the steps before a subframe's samples, put together. Unique: the contract leaves one outcome.
pub mod Befores
pub mod Unique

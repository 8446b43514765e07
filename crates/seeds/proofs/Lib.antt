-- Halves: the generator's words in 16-bit halves. Unique: each contract leaves one outcome.
pub mod Halves
pub mod Unique

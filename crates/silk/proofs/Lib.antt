-- Told: the numbers of the two records. Zeros: the words of a row of zeros. Unique: each contract leaves one outcome.
pub mod Told
pub mod Zeros
pub mod Unique

-- Fnv: the steps of the two digests.
pub mod Fnv

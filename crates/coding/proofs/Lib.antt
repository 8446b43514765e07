-- Ready: what a good call has, and the words of a state. Unique: each contract leaves one outcome.
pub mod Ready
pub mod Unique

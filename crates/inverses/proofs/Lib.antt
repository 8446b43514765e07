-- Head: the normalisation. Laws: two readings of one step. Unique: each contract leaves one outcome.
pub mod Head
pub mod Laws
pub mod Unique

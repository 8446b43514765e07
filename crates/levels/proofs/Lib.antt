-- Laws: a half fits, and how fields are read back. Unique: each contract leaves one outcome.
pub mod Laws
pub mod Unique

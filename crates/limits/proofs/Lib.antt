-- Laws: tests and counts. Anys: a test of some word of a row. Unique: each contract leaves one outcome.
pub mod Anys
pub mod Laws
pub mod Unique

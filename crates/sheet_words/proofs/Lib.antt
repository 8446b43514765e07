-- Runs, Classes: bytes of one sort. Values, Signs, FirstByte: the number of a word. Unique: one outcome.
pub mod Runs
pub mod Values
pub mod Signs
pub mod Classes
pub mod FirstByte
pub mod Unique

-- Laws for this crate's proofs and for the crates above. Lin: linear arithmetic on ℤ. Wraps: what wraps. Wrapping: the same of std's methods. Floors: shifts and
-- rounding. Fit: what fits a width. Bounds: ranges. Iters: loops. Fills: loops that write one place at each turn. Each: loops that make each
-- place anew. Searches: the first of the best. Lowest: the lowest number of which a test holds. Blocks: numbers counted in blocks. Parts: a
-- part of a list. Unique: one outcome.
pub mod Lin
pub mod Wraps
pub mod Wrapping
pub mod Floors
pub mod Fit
pub mod Bounds
pub mod Iters
pub mod Fills
pub mod Each
pub mod Searches
pub mod Lowest
pub mod Blocks
pub mod Parts
pub mod Unique

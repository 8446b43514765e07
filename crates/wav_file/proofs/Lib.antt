-- Rows: a row filled. Exactly: each number is given exactly when it applies and no lower one does. Firsts: the first place that passes a test. Walks: the
-- walked chunks. Apart: two of them lie apart. Part: the part of an accepted file. Same, Skips: what isn't looked at doesn't matter. Behind: nor
-- what is behind the part. Plain: a plain file is read back. Examples: files for each answer. Rates, Going, Gives: for the code. Unique: one
-- outcome.
pub mod Rows
pub mod Exactly
pub mod Firsts
pub mod Walks
pub mod Apart
pub mod Part
pub mod Same
pub mod Behind
pub mod Skips
pub mod Plain
pub mod Examples
pub mod Going
pub mod Gives
pub mod Rates
pub mod Unique

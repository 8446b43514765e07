-- Exactly: the table of docs/RULES.md, row by row. Accept: an accepted call is good. Room: what the frame takes of that. Matched: a match on an
-- answer. Examples: calls, by computation. Unique: one outcome.
pub mod Accept
pub mod Exactly
pub mod Examples
pub mod Matched
pub mod Room
pub mod Unique

-- Cleaned: a call with every number cleared that doesn't count. Changes: the list of what cleaning changed. Turns: a row cleaned by a loop.
pub mod Cleaned
pub mod Changes
pub mod Turns

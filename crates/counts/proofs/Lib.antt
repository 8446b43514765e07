-- Rows: rows that agree below a place. Conditions: of the list. Refusals: the number is the same. Sample, Subframe, Flush, Before, Step: what each step of a frame reads, and
-- that two frames in work stay equal below a bound. Place: the bounds, subframe by subframe. Prefix: the same for calls that differ in later samples.
-- Accepted, Calls: what a call that was accepted has, and what two that agree share. Frame, PrefixFrame, Whole: the whole frame.
-- Theorems: demand 3. Filled: its conditions can be met.
pub mod Rows
pub mod Conditions
pub mod Refusals
pub mod Sample
pub mod Subframe
pub mod Flush
pub mod Before
pub mod Step
pub mod Place
pub mod Prefix
pub mod Accepted
pub mod Frame
pub mod PrefixFrame
pub mod Calls
pub mod Whole
pub mod Theorems
pub mod Filled

-- Dead: how many paths are dead. Pasts: whose heirs the living are. Four: one of three. Costing, Living, Flushed: the argument, over numbers and for any
-- penalty that suffices: what the living and the dead cost, that a sample keeps it, and what the flushes do. Offsets: running costs as those numbers.
-- Words: words RandState and the pulses behind them. Tried, Took, Chosen, Noted: all paths at one sample: what they try, what they become, what is
-- chosen, what they carry. Held: what holds of a frame in work. Sampled, Turn: a sample keeps it. Between, Flush, Start: so do the steps between
-- samples, and it holds at the start. Frame: the whole frame. Totals: no total wraps. FarEnd: the RFC's reader on a path's pulses. Theorems: the
-- pulses belong to the winner.
pub mod Dead
pub mod Pasts
pub mod Four
pub mod Costing
pub mod Living
pub mod Flushed
pub mod Offsets
pub mod Words
pub mod Tried
pub mod Took
pub mod Chosen
pub mod Noted
pub mod Held
pub mod Sampled
pub mod Turn
pub mod Between
pub mod Flush
pub mod Start
pub mod Frame
pub mod Totals
pub mod FarEnd
pub mod Theorems

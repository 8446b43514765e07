-- Passes: the run of the definition passes through the frames that are read. Candidates, One: one path at one sample. Ring: places of the ring.
-- Kept, Between, Start: what is kept at a sample, between subframes, and at the start. Accepted: what an accepted call has. Levels: the levels of a
-- run and their pulses. Trace: the whole frame. Reader: the RFC's row. Theorems: what the far end hears. FarEnd: the whole
-- way, through the reader.
pub mod Passes
pub mod Candidates
pub mod One
pub mod Ring
pub mod Kept
pub mod Between
pub mod Accepted
pub mod Start
pub mod Levels
pub mod Trace
pub mod Reader
pub mod Theorems
pub mod FarEnd

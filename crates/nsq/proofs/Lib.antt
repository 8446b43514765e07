-- Outcomes: accepted and refused calls. Unique: one outcome. Examples: calls, by computation.
pub mod Unique
pub mod Examples

-- Neighbours: calls that differ in one word that counts have different outcomes.
pub mod Neighbours

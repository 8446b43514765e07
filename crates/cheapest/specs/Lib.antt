-- Cheapest: no pulse number is cheaper. Looked: what the paths look at when a sample comes.
pub mod Cheapest
pub mod Looked

-- Outward: a level further out costs no less. Levels: the nearest level on each side costs least. Costs: the rule's cost as a floor. Pairs: where the
-- two candidates stand. Theorems: no pulse is cheaper than the first candidate, of the rule, the Rust's choice, a sample and a path. Calls: of every
-- accepted call. Edge: Lambda 1105, by computing. Lost: with which Lambdas something is lost.
pub mod Outward
pub mod Levels
pub mod Costs
pub mod Pairs
pub mod Theorems
pub mod Calls
pub mod Edge
pub mod Lost

-- Analysis: what the filter leaves in each place. Unique: the contract leaves one outcome.
pub mod Analysis
pub mod Unique

-- Costs: the numbers by which paths are told apart. Used: the excitation that each path used. Totals: the totals of a sample, unwrapped.
pub mod Costs
pub mod Used
pub mod Totals

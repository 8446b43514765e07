pub mod WarpedFilter
pub mod WarpedPairs

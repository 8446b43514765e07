pub mod Iter
pub mod Range
pub mod Row
pub mod Shift
pub mod Wrap

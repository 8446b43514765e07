-- Values: what a pulse stands for. Rows: a row in work. Accepted: what the answers say. Examples: rows by computation. Unique: one outcome.
pub mod Values
pub mod Rows
pub mod Accepted
pub mod Examples
pub mod Unique

-- Printed, RoundTrip: what is printed is read back. Unique: one outcome.
pub mod Printed
pub mod RoundTrip
pub mod Unique

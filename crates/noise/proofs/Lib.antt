-- Examples: numbers at which a slip would show. Pulses: the pulse that is handed out. Unique: each contract leaves one outcome.
pub mod Examples
pub mod Pulses
pub mod Unique

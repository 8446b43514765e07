-- Called: the call that a sheet stands for. Texts: the parts of the text. Room: how long it can be. Unique: one outcome. Examples: small texts,
-- computed.
pub mod Called
pub mod Texts
pub mod Room
pub mod Unique
pub mod Examples

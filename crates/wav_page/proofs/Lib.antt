-- Texts: the parts of the text, put together. Room: how long it can be. Plain: a plain file's text. Unique: one outcome. Examples: small texts,
-- computed.
pub mod Texts
pub mod Room
pub mod Plain
pub mod Examples
pub mod Unique

-- Places: rows place by place. Keeps: a place counts exactly when `Agree` asks for it. Theorems: E2 of calls. Listed: the list of changes.
-- Same: a setting compared with a number. Loops: all places of a row, one after the other. Unique: the contract leaves one outcome.
pub mod Places
pub mod Keeps
pub mod Theorems
pub mod Listed
pub mod Same
pub mod Loops
pub mod Unique

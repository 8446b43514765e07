-- Moves: a row copied in one piece is the row copied word by word.
pub mod Moves

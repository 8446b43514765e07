-- Sheets: cleaning of sections. Read: what is read as a sheet lies within the layout. Within: so does the cleaned sheet, in the same shape.
-- Theorems: what is printed for bytes of each kind, the list of changes, and the cleaned sheet. FirstBytes: the kinds of text told apart. LastLines: the
-- text by its lines. Room: how long it can be. Examples: each kind, computed. Printed: the lines of the changes, as the code puts them together. Held: the
-- cleaned sheet, as the code holds it. Texts: the parts of the
-- text, as the code puts them together. Unique: one outcome.
pub mod Sheets
pub mod Read
pub mod Within
pub mod Theorems
pub mod FirstBytes
pub mod LastLines
pub mod Room
pub mod Examples
pub mod Printed
pub mod Held
pub mod Texts
pub mod Unique

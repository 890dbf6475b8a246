-- A plain book in bytes, and what a valid one is.
-- Layout: how wide each section is, and where it begins.
pub mod Layout
-- Image: a plain book in bytes, and the plain book that bytes say.
pub mod Image
-- Valid: which plain books are valid, and which bytes are a book.
pub mod Valid
-- Changes: what a loop over cells of a book puts to each.
pub mod Changes
-- Cells: what bytes say from a place on.
pub mod Cells
-- Tables: tables by account hour, what has room in them, and cells raised.
pub mod Tables

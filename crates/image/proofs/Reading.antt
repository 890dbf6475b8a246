-- What stands at a place of a book.
-- ImageReads: what stands at a place of a book.
pub mod ImageReads
-- Places: the book that bytes say, each field at its own place.
pub mod Places
-- RowBytes: a row read at its place in the whole bytes.
pub mod RowBytes
-- RowsFrom: the cells that stand in bytes from a place on.
pub mod RowsFrom

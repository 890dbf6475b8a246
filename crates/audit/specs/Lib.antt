-- Whether bytes are those of a sound book.
-- Exact: tests, each of one place, that bytes are an image.
pub mod Exact
-- Twins: the keys by which pending rows alike are found.
pub mod Twins
-- Validity: a book section by section, as code tests it.
pub mod Validity

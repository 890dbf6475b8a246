-- What the contracts of `strips` say.
-- Ready: a strip whose rows are in range of a book.
pub mod Ready

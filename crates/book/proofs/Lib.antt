-- Laws of the bytes of a book.
-- OpenedBytes: what opening writes is the image of the book that it opens.
pub mod OpenedBytes
-- OpeningLaws: the loops of opening, step by step.
pub mod OpeningLaws
-- StateLaws: what the bytes of a book hold at each place.
pub mod StateLaws
-- BookRows: the set-up and the rows of bytes that are a book, and what code asks of them.
pub mod BookRows
-- ReadingLaws: what the readings answer.
pub mod ReadingLaws
-- NettedLaws: a net position from its 4 bytes.
pub mod NettedLaws
-- WaitLaws: the pending rows of one account, added to the table row by row.
pub mod WaitLaws
-- WorthLaws: exposure as the sum of net positions below zero and pending sales, and what a trade does to it.
pub mod WorthLaws
-- WorthParts: sums of estimated prices, pending sales row by row, and the exposure as the sum of its parts.
pub mod WorthParts
-- ShortLaws: what of net positions lies below zero, by hour, account and operator.
pub mod ShortLaws
-- HourlyLaws: the hourly exposure as the sum of its two parts.
pub mod HourlyLaws
-- PhaseLaws: phases compared, by their numbers.
pub mod PhaseLaws
-- Answers: what a refusal and an acceptance answer on the bytes of a book.
pub mod Answers
-- Readiness: what a request in range passed.
pub mod Readiness

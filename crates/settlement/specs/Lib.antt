-- What the contracts of `settlement` say, beside `rules`, `book` and `valuation`.
-- Scheduling: the bytes that a schedule handed in is written to.
pub mod Scheduling
-- Settling: a settle as a call, and what it answers.
pub mod Settling
-- Judging: schedules judged one after the other, and the tables kept of them.
pub mod Judging

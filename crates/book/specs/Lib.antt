-- The bytes of a book.
-- Members: the numbers that a book has, of accounts, operators, hours and rows.
pub mod Members
-- Netted: a net position by itself.
pub mod Netted
-- Waits: the pending rows of one account, summed by hour.
pub mod Waits
-- Worth: exposure in two parts, net positions and pending sales.
pub mod Worth
-- Hourly: the hourly exposure in the same two parts.
pub mod Hourly
-- Answers: what opening and the readings answer, on any bytes.
pub mod Answers
-- Fresh: the loops by which opening writes a fresh book.
pub mod Fresh
-- Kinds: what a request that was read is answered on a book, and the book after it.
pub mod Kinds

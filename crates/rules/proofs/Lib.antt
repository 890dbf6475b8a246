-- Laws of the definitions in specs/.
-- Basics: tests, searches, differences, sums and counting.
pub mod Basics
-- Rows: rows, account hours, margins and the parties of a trade.
pub mod Rows
-- Checks: what an accepted call passed.
pub mod Checks
-- Records: the fields of a record, and both round trips.
pub mod Records
-- Setups: entries of a set-up, and its shape.
pub mod Setups
-- Ledgers: the ledger agrees with the book.
pub mod Ledgers
-- Lists: lists of calls, and batches cut out of them.
pub mod Lists
-- Settling: priority, results, balances and their total.
pub mod Settling
-- Starred: the starred cases as one set.
pub mod Starred

-- The ledger agrees with the book.
-- Entries: the ledger's pending entries are the book's pending rows with their numbers.
pub mod Entries
-- Ranged: every book that calls make has rows between its accounts and schedules on its points.
pub mod Ranged
-- PageAgreement: a page of the ledger agrees with the book's part, and each call changes both alike.
pub mod PageAgreement
-- Agreement: the ledger agrees with the book after any list of calls.
pub mod Agreement
-- LedgerReadings: net, exposure, available and settlement are the ledger's wherever it agrees with the book.
pub mod LedgerReadings
-- LedgerDay: after any list of calls on a day, readings and an accepted settle are the ledger's.
pub mod LedgerDay

-- What the contracts of `registration` say.
-- Proposing: the row that a register proposes, and what is written of it.
pub mod Proposing
-- Confirming: the pending row that a confirm names.
pub mod Confirming
-- Margins: what the search for a broken margin is asked.
pub mod Margins
-- Cover: what covers an exposure.
pub mod Cover
-- Positions: the net positions that a trade moves, in bytes.
pub mod Positions

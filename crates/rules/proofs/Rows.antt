-- Rows, account hours, margins and the parties of a trade.
-- SignedReading: the tests on natural numbers are the paper's signed statements.
pub mod SignedReading
-- Balanced: in each hour bought equals sold.
pub mod Balanced
-- AccountHours: what one row more, or a row marked, does to an account hour.
pub mod AccountHours
-- Easing: what eases an account hour keeps its margins and its cover.
pub mod Easing
-- Operators: sums over an operator's accounts.
pub mod Operators
-- Arrangement: an operator's exposure as the sum of its account hours' amounts, in any order and in any groups, and hour by hour.
pub mod Arrangement
-- RowTests: what the tests on rows say, and the rows that an accepted confirm and withdraw name.
pub mod RowTests
-- RowChanges: what marking a row and closing the gate keep.
pub mod RowChanges

-- What the contracts of `day` say, and what is promised of a day.
-- Answers: what a call answers, on any bytes.
pub mod Answers
-- Plain: requests that are lent nothing beside their record, and what they are answered on a book.
pub mod Plain
-- Readings: what the ledger would read out.
pub mod Readings
-- Promise: demand 3 whole, clause by clause.
pub mod Promise

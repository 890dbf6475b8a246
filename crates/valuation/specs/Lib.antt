-- What the contracts of `valuation` say, beside `rules` and `book`.
-- Tables: what settlement works from, and the table of what is used up of the limits.
pub mod Tables
-- Congruity: what a schedule is compared with.
pub mod Congruity
-- Registered: what registered schedules inject, withdraw and carry as CCT, by account hour.
pub mod Registered
-- Hours: an account hour valued.
pub mod Hours
-- Balances: what is added up to an operator's balance.
pub mod Balances

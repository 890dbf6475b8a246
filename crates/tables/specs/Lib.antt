-- Tables by account hour.
-- Sums: the sums of all account hours in one table.
pub mod Sums

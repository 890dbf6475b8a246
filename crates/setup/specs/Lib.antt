-- What the contracts of `setup` say besides the definitions of `rules`.
-- Faults: what a row of values comes to, and bytes that hold what their counts say.
pub mod Faults

-- What an accepted call passed.
-- Clearing: checks of which none applies, and two rows of checks.
pub mod Clearing
-- Passed: what an accepted call passed, a law for each number, and what a refused one keeps.
pub mod Passed
-- PassedOn: a refusal that is passed on by `?`.
pub mod PassedOn
-- Stages: what a call is refused for, stage by stage.
pub mod Stages
-- KindTables: the tables by kind agree with each other.
pub mod KindTables

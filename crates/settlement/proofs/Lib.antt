-- Laws of settlement.
-- Decisions: what the state refuses a schedule for, test by test.
pub mod Decisions
-- SchedulingLaws: the bytes of a schedule, and what an accepted one writes.
pub mod SchedulingLaws
-- Refusals: what settle is refused for, test by test.
pub mod Refusals
-- PlacingLaws: the schedules of a book with their places, before and in order of priority.
pub mod PlacingLaws
-- JudgingLaws: schedules judged one after the other.
pub mod JudgingLaws
-- TurnLaws: each schedule of a book in its turn.
pub mod TurnLaws
-- NettedLaws: settlement at net positions of the same differences.
pub mod NettedLaws
-- DrawingLaws: what settle writes to its buffers.
pub mod DrawingLaws
-- SettlingLaws: what settle answers.
pub mod SettlingLaws

-- How the schedules are put in order of priority.
-- The ranks of schedules, and what a rank names.
pub mod Order

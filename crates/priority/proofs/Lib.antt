-- Laws of the order of priority.
-- OrderLaws: ranks in ascending order name the schedules in order of priority.
pub mod OrderLaws

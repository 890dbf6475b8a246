-- Laws of asks.
-- PlaceLaws: what the place of an account holds, an ask put there, and all places cleared.
pub mod PlaceLaws
-- AskLaws: what an ask answers and leaves.
pub mod AskLaws
-- CommitLaws: what the state refuses a commit for, and what an accepted one writes.
pub mod CommitLaws
-- StandingLaws: the asks tested one by one.
pub mod StandingLaws
-- TwinLaws: rows that are twins of asks.
pub mod TwinLaws
-- SharedLaws: the sums that the tests of all asks share.
pub mod SharedLaws

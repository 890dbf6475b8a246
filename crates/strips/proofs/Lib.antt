-- Laws of strips on a book.
-- ReadyLaws: the rows of a strip that is ready are rows of the book, one after the other.
pub mod ReadyLaws
-- StandingLaws: whether a row that stands is alike one of the requests of a strip.
pub mod StandingLaws
-- LoopLaws: rows appended one by one, and sales summed one by one.
pub mod LoopLaws
-- AcceptLaws: an accepted strip makes the changed book, and a sound one.
pub mod AcceptLaws
-- CoverLaws: the exposure with the rows of a strip in.
pub mod CoverLaws
-- DecidingLaws: what the state decides on a strip, test by test.
pub mod DecidingLaws
-- CallLaws: what a call with the bytes of a strip answers, stage by stage.
pub mod CallLaws

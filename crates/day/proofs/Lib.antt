-- Laws of a day's calls.
-- Images: calls on the bytes of a valid book are those on the book.
pub mod Images
-- AnswerLaws: a call on any bytes; a refused one changes no lent byte.
pub mod AnswerLaws
-- Stages: what a call on the bytes of a sound book answers before asks are cleared, by what it is refused for.
pub mod Stages
-- RequestLaws: what a request of any single kind but settle is answered on a book, whatever record says it.
pub mod RequestLaws
-- CallLaws: what a call on a book answers, by what its record reads as, and once asks are cleared.
pub mod CallLaws
-- SettleLaws: what an accepted settle writes, and that its figures are read back.
pub mod SettleLaws
-- Readings: every reading of a book is its ledger's.
pub mod Readings
-- Refusals: the numbers of a call's checks, of which none is 1.
pub mod Refusals
-- StripLaws: a strip of one record answers as that register, and an accepted strip leaves what its registers in turn would leave.
pub mod StripLaws
-- AskLaws: an ask is answered as the register of its fields.
pub mod AskLaws
-- HourlyLaws: what the readings by hour give adds up to what the reading of exposure gives.
pub mod HourlyLaws
-- Theorem: demand 3 whole, and that no call of such a list answers 1.
pub mod Theorem

-- Laws of the test whether bytes are those of a sound book.
-- NetTests: the stored nets, each by a test without signs.
pub mod NetTests
-- PartTests: a part that passes its tests is its own image.
pub mod PartTests
-- SetupTests: the set-up's section of a book that passes its tests is that of its image.
pub mod SetupTests
-- AskTests: the asks' section of a book that passes its tests is that of its image, and the places as code tests them.
pub mod AskTests
-- Local: bytes are those of a sound book by tests that each look at one place.
pub mod Local
-- CheckLaws: the tests of a row and of a schedule as code joins them, and a loop that tests entry after entry.
pub mod CheckLaws
-- FollowLaws: saved rows followed by present ones.
pub mod FollowLaws
-- TwinLaws: twins found by keys.
pub mod TwinLaws
-- CoverLaws: what is available to an operator, read from bytes.
pub mod CoverLaws
-- ValidityLaws: the set-up's section as code tests it.
pub mod ValidityLaws
-- PartValidity: a part as code tests it.
pub mod PartValidity
-- BookValidity: bytes are those of a sound book where each section stands.
pub mod BookValidity

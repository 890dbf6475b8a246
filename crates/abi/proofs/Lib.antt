-- Laws of what the contracts of `abi` say.
-- PackingLaws: an outcome's one number taken apart.
pub mod PackingLaws
-- FieldLaws: a request in 34 bytes, there and back.
pub mod FieldLaws
-- LendingLaws: the ways out of a lent buffer, and the signed word of a position.
pub mod LendingLaws

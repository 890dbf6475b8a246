-- Laws of the replay.
-- ReplayLaws: the steps strung together are the replay.
pub mod ReplayLaws
-- CallLaws: the call of an item, by its two parts.
pub mod CallLaws
-- AnswerLaws: which items settle, and what the answer to an item prints.
pub mod AnswerLaws
-- StepLaws: a step by what stands at its place.
pub mod StepLaws
-- GatherLaws: lines put behind those in a buffer, and the text to come.
pub mod GatherLaws

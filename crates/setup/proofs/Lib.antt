-- Laws of what the contracts of `setup` say.
-- FaultLaws: a row of values judged in parts, and what a set-up is refused for.
pub mod FaultLaws

-- Laws of a replay in rounds.
-- RoundLaws: rounds strung together, their lines, and the text to come.
pub mod RoundLaws

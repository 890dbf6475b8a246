-- What the contracts of `replaying` say; the items, lines and text that they lead to are those of rules/specs/Replay.antt.
-- Steps: what one step of the replay prints, and with what the replay goes on.
pub mod Steps
-- Lent: what a step leaves in the buffers that it is lent.
pub mod Lent
-- Gathering: the lines of many items in one buffer, and the text still to come.
pub mod Gathering

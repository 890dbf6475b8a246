-- Entries of a set-up, and its shape.
-- SetupEntries: entries that stand side by side in bytes, by number, and there and back.
pub mod SetupEntries
-- SetupShape: what is known of set-up bytes that are in shape, and of those that are not refused.
pub mod SetupShape

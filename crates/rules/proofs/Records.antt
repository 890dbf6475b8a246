-- The fields of a record, and both round trips.
-- Fields: where the fields of a record lie, and what they hold.
pub mod Fields
-- RoundTrip: a request that is written reads back, and a record that is read writes back.
pub mod RoundTrip
-- StripRows: the rows of a strip.
pub mod StripRows

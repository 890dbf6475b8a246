-- Laws of items and lines.
-- StreamLaws: what stands at an offset is the first of the items from there on; an item's two parts.
pub mod StreamLaws
-- DecimalLaws: decimal digits, as defined and as the code makes them.
pub mod DecimalLaws
-- WrittenLaws: texts put one behind the other.
pub mod WrittenLaws
-- PutsLaws: the same of what is put behind the lines in a buffer.
pub mod PutsLaws
-- LineLaws: a line is the pieces that the code puts.
pub mod LineLaws
-- FigureLaws: what the code says of a figure of 8 bytes, and the sum of figures.
pub mod FigureLaws
-- ListLaws: lines put one after the other.
pub mod ListLaws
-- SettledLaws: the buffers as an accepted settle leaves them print its lines.
pub mod SettledLaws

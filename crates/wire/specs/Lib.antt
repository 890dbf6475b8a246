-- What the contracts of `wire` say.
-- Numbers: a number in bytes, low byte first, unsigned and signed.
pub mod Numbers
-- Regions: bytes of a list replaced, copied, and tested for zero.
pub mod Regions
-- Parts: bytes made of parts of fixed width, of numbers in their widths, and of equal cells.
pub mod Parts

-- Tests, searches, differences, products, sums and counting.
-- Tests: what Boolean tests say.
pub mod Tests
-- Searches: what a search over a list says of its elements.
pub mod Searches
-- Differences: differences of natural numbers, compared, added to and negated by their parts.
pub mod Differences
-- Products: entries of one width, side by side.
pub mod Products
-- Totals: sums over lists and over the numbers counted.
pub mod Totals
-- CountingLaws: a loop that counts up, as a test of every number and as a sum.
pub mod CountingLaws

-- Tables by account hour, and how large sums can grow.
-- SumLaws: what raising a range of cells does to the table of sums.
pub mod SumLaws
-- MoneyLaws: how much money a day's settlement can move.
pub mod MoneyLaws
-- TabledLaws: the parties of a row are accounts of the table.
pub mod TabledLaws

-- Laws of the table of sums, and of what is read off it.
-- ShareLaws: what one row adds to each lane.
pub mod ShareLaws
-- FillLaws: the table row by row.
pub mod FillLaws
-- MarginLaws: margins account by account.
pub mod MarginLaws
-- ExposureLaws: exposure hour by hour and account by account.
pub mod ExposureLaws

-- Laws of what schedules and account hours come to.
-- PriceLaws: the prices of a table, by number, by zone and hour, and one after the other.
pub mod PriceLaws
-- CellLaws: the table of what is used up, cell by cell.
pub mod CellLaws
-- CongruityLaws: the result of a schedule by what is used up.
pub mod CongruityLaws
-- RegisteredLaws: the table of what is registered, by account hour.
pub mod RegisteredLaws
-- ScheduleLaws: what a judged schedule registers.
pub mod ScheduleLaws
-- BalanceLaws: sums of balances, and an amount credited to an operator.
pub mod BalanceLaws
-- HourLaws: an account hour valued.
pub mod HourLaws
-- AmountLaws: the hourly amounts added up, over hours and accounts.
pub mod AmountLaws
-- BalanceTotals: the amounts of the first operators, one after the other.
pub mod BalanceTotals
-- WordLaws: a balance as a signed word, and the balances written one after the other.
pub mod WordLaws

-- Priority, results, balances and their total.
-- PriorityLaws: one order of all schedules is the paper's order among those of any one account, hour and side.
pub mod PriorityLaws
-- SettledTotal: the balances total what the registered schedules are worth at the prices that they meet.
pub mod SettledTotal
-- HourlyAmounts: an operator's hourly amounts total its balance.
pub mod HourlyAmounts
-- Figures: the balances that settle writes are read back from its buffer.
pub mod Figures
-- SettledApart: the schedules of one account, hour and side are settled as if no others stood.
pub mod SettledApart

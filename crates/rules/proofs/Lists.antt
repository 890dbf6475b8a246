-- Lists of calls, and batches cut out of them.
-- CallLists: lists of calls put together, refused calls and others cut out of them.
pub mod CallLists
-- Strips: a strip of one record answers as that register, an accepted strip does what its registers in turn would do.
pub mod Strips
-- Batches: an undone batch gives back the book of its open, so that a list without it says the same.
pub mod Batches
-- Carrying: a list on books of two forms on which calls answer alike.
pub mod Carrying
-- Asks: an ask answers as its register, what a call leaves of the asks, and a commit gives what its ask gave.
pub mod Asks

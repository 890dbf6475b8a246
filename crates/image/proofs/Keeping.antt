-- Every call keeps a valid book valid.
-- KeepsRows: what one row more, a row marked, and the close of the gate do to the tests on rows.
pub mod KeepsRows
-- Easing: what eases an account hour, and that a confirm eases the other party.
pub mod Easing
-- KeepsParts: what a change of a sound part needs, so that it is sound again, and that each kind brings it.
pub mod KeepsParts
-- KeepsChanges: every change that brings what it needs keeps a book sound.
pub mod KeepsChanges
-- KeepsKinds: each kind brings what its change needs.
pub mod KeepsKinds
-- Keeps: every call leaves a valid book valid, its set-up as it was, and all but three kinds what is saved.
pub mod Keeps
-- Opened: the book that a set-up opens is valid.
pub mod Opened
-- Reachable: what holds of every book that calls reach from a freshly opened one.
pub mod Reachable

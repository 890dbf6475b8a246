-- The sum so far, and what the accounts that are left add, make what all accounts of the operator add.
use Prim.Native.Nat.{ℕ, ◌+◌}
use mathlib.Core.Path.{sym, ap, ◌∙◌}
use native.Mathlib.Omega.{arith}
use Rattle.rules.specs.declared.Counts.{Counts}
use Rattle.rules.proofs.Basics.CountingLaws.{sum_begins, sum_next, sum_done}
use Rattle.book.proofs.StateLaws.{book_length, book_is_sound}
use Rattle.book.proofs.WorthParts.{accounts_in_lem}
use Rattle.book.proofs.ShortLaws.{short_by_account}
use Rattle.book.proofs.worth.short_worth.Goals as goal

pub counts-n-requires : goal.counts-n-requires
counts-n-requires c = omega (arith, book_length _ c.requires.0.is_sound)

pub loop-account-init : goal.loop-account-init
loop-account-init c =
    let accounts = ap (λ (n : Counts). n.accounts) c.counts-n.ensures ∙ accounts_in_lem _ c.requires.0.is_sound in (
      accounts,
      omega (arith, accounts, (book_is_sound _ c.requires.0.is_sound).setup_sound.accounts_high),
      omega arith,
      omega arith,
      omega arith,
      sum_begins _ _ _ _ (omega arith),
    )

pub loop-account-preserved : goal.loop-account-preserved
loop-account-preserved c = (
  c.loop-account.invariant.0,
  c.loop-account.invariant.1,
  omega arith,
  omega arith,
  omega (arith, c.loop-account.invariant.4, c.add-sum.ensures, c.short_share.ensures.bounded),
  sum_next _ _ _ _ _ _ _ (omega (arith, c.loop-account.invariant.0)) (c.add-sum.ensures ∙ ap (λ (x : ℕ). c.loop-account.sum.0 + x) c.short_share.ensures.meaning) c.loop-account.invariant.5,
)

pub returns-clause-meaning : goal.returns-clause-meaning
returns-clause-meaning c =
    sum_done _ _ _ _ _ (omega (arith, c.loop-account.invariant.0)) c.loop-account.invariant.5 ∙ sym (short_by_account _ _ _)

pub returns-2-clause-meaning : goal.returns-2-clause-meaning
returns-2-clause-meaning c =
    sum_done _ 0 _ _ _ (omega arith) (sum_next _ _ 0 _ _ _ _ (omega (arith, c.loop-account.invariant.0)) (c.add-sum.ensures ∙ ap (λ (x : ℕ). c.loop-account.sum.0 + x) c.short_share.ensures.meaning) c.loop-account.invariant.5)
    ∙ sym (short_by_account _ _ _)

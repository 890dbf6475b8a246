-- Each margin is read at its own place; the upper ones stand past the lower ones.
use Prim.Native.Nat.{ℕ, ◌+◌, ◌-◌, ◌*◌, ◌≤◌}
use mathlib.Core.Path.{◌≡◌, ap, sym}
use mathlib.Core.List.{List}
use native.Mathlib.Omega.{arith}
use lib.ListN.{length, take, drop}
use Rattle.units.specs.declared.Kwh.{Kwh}
use Rattle.rules.specs.declared.Counts.{Counts}
use Rattle.rules.specs.Books.{margins_at}
use Rattle.rules.specs.Opening.{counts_in, setup_of, account_offset, setup_length, lower_offset, upper_offset, margin_width, margin_in}
use Rattle.rules.proofs.Setups.SetupEntries.{margin_inside, margin_at, margins_at_lem}
use Rattle.setup.specs.Faults.{Whole}
use Rattle.setup.proofs.entries.margins.Goals as goal

module _ (s : List ℕ) (n : Counts) (a h : ℕ) (same : n ≡ counts_in s) (own : Whole s × (1 ≤ a) × (a ≤ (counts_in s).accounts)) (hour : (1 ≤ h) × (h ≤ (counts_in s).hours))
  where
    account_known : a ≤ n.accounts
    account_known = omega (arith, own.2, ap (λ (n : Counts). n.accounts) same)

    hour-known : h ≤ n.hours
    hour-known = omega (arith, hour.1, ap (λ (n : Counts). n.hours) same)

    -- both margins of the hour end inside the bytes
    inside : account_offset n a + lower_offset + margin_width * (h - 1) + margin_width * n.hours + margin_width ≤ length s
    inside = omega (arith, own.0, ap setup_length same, margin_inside n a h own.1 account_known hour.0 hour-known)

    -- what was read at their places are they
    read : {lower upper : Kwh} {from all : ℕ} → from ≡ account_offset n a → all ≡ margin_width * n.hours
        → lower ≡ margin_in (take margin_width (drop (from + lower_offset + margin_width * (h - 1)) s))
        → upper ≡ margin_in (take margin_width (drop (from + lower_offset + margin_width * (h - 1) + all) s))
        → record { lower = lower; upper = upper } ≡ margins_at (setup_of s) a h
    read place all low up =
        let at : ℕ = account_offset n a in
        let past : at + lower_offset + margin_width * (h - 1) + margin_width * n.hours ≡ at + upper_offset n + margin_width * (h - 1) = omega arith in
        rw (low, up, place, all, past, margin_at s (at + lower_offset + margin_width * (h - 1)), margin_at s (at + upper_offset n + margin_width * (h - 1)))
        (sym (margins_at_lem s n same a h own.1 account_known hour.0 hour-known))

pub margin_at-requires : goal.margin_at-requires
margin_at-requires c =
    omega (arith, c.account_offset-entry.ensures.0, inside c.args.setup.now c.counts-n.result c.args.number c.args.hour c.counts-n.ensures c.requires.whole c.requires.in_day)

pub margin_at-requires-2 : goal.margin_at-requires-2
margin_at-requires-2 c =
    omega (arith, c.margins_length.ensures, c.account_offset-entry.ensures.0, inside c.args.setup.now c.counts-n.result c.args.number c.args.hour c.counts-n.ensures c.requires.whole c.requires.in_day)

pub returns : goal.returns
returns c =
    read _ _ _ _ c.counts-n.ensures c.requires.whole c.requires.in_day c.account_offset-entry.ensures.0 c.margins_length.ensures c.margin_at.ensures c.margin_at-2.ensures

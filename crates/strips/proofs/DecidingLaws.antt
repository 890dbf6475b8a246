-- What the state decides on a strip, test by test: as on a register of all its requests.
use Rattle.std.specs.Prelude.{Err, Ok, Option, None, Some}
use Prim.Native.Nat.{ℕ, ◌+◌, ◌<◌}
use mathlib.Core.Path.{◌≡◌, sym, ap, ◌∙◌}
use mathlib.Core.List.{List, map}
use mathlib.Core.Bool.{Bool, true, false}
use lib.ListN.{length}
use Rattle.rules.specs.declared.Request.{Request}
use Rattle.rules.specs.declared.Refusal.{Refusal}
use Rattle.rules.specs.declared.Refusal.TheVariants.{WrongPhase, AlreadyPending, StripTwins, RowsFull, MarginBroken, Uncovered}
use Rattle.rules.specs.Basics.{any_passes}
use Rattle.rules.specs.Limits.{most_rows}
use Rattle.rules.specs.Verdicts.{first_to_apply, checked}
use Rattle.rules.specs.Books.{Book, operator_of}
use Rattle.rules.specs.Requests.{register, strip, first_of}
use Rattle.rules.specs.Registration.{proposed, has_twin, twins, broken_by}
use Rattle.rules.specs.Calls.{state_checks}
use Rattle.registration.specs.Cover.{covered_with_rows}
use Rattle.registration.specs.Proposing.{Addable}
use Rattle.registration.proofs.AddingLaws as Adding

module _ (b : Book) (qs : List Request) where
  decides : (o : Option Refusal) → first_to_apply (state_checks b register qs) ≡ o → checked o ≡ checked (first_to_apply (state_checks b strip qs))
  decides o e = ap checked (sym (Adding.strip-decided b qs ∙ e))

  -- 11
  pub later_decides : (b.phase ≡ 1 → ⊥) → Err WrongPhase ≡ checked (first_to_apply (state_checks b strip qs))
  later_decides n = decides (Some WrongPhase) (Adding.adding_later b qs n)

  module _ (first : b.phase ≡ 1) where
    -- 14
    pub standing_decides : any_passes (has_twin b.part.rows) qs ≡ true → Err AlreadyPending ≡ checked (first_to_apply (state_checks b strip qs))
    standing_decides e = decides (Some AlreadyPending) (Adding.twin_pending b qs first e)

    module _ (alone : any_passes (has_twin b.part.rows) qs ≡ false) where
      -- 22
      pub twins_decide : twins qs ≡ true → Err StripTwins ≡ checked (first_to_apply (state_checks b strip qs))
      twins_decide e = decides (Some StripTwins) (Adding.twins_among b qs first alone e)

      -- 15
      pub no_room_decides : twins qs ≡ false → most_rows < length b.part.rows + length qs → Err RowsFull ≡ checked (first_to_apply (state_checks b strip qs))
      no_room_decides apart h = decides (Some RowsFull) (Adding.no_numbers_left b qs first alone apart h)

  module _ (p : Addable b qs) where
    -- 18
    pub margin_decides : (h : ℕ) → Some h ≡ broken_by b.setup b.part.rows (map proposed qs) (first_of qs).account
        → Err (MarginBroken h) ≡ checked (first_to_apply (state_checks b strip qs))
    margin_decides h e = decides (Some (MarginBroken h)) (Adding.margin_breaks b qs p h (sym e))

    module _ (kept : None ≡ broken_by b.setup b.part.rows (map proposed qs) (first_of qs).account) (t : Bool)
        (test : t ≡ covered_with_rows b (map proposed qs) (operator_of b.setup (first_of qs).account)) where
      -- 19
      pub uncovered_decides : t ≡ false → Err Uncovered ≡ checked (first_to_apply (state_checks b strip qs))
      uncovered_decides f = decides (Some Uncovered) (Adding.rows_uncovered b qs p (sym kept) t test f)

      pub covered_decides : t ≡ true → (Ok tt) ≡ checked (first_to_apply (state_checks b strip qs))
      covered_decides f = decides None (Adding.rows_covered b qs p (sym kept) t test f)

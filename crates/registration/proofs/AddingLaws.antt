-- What the state decides on requests that add rows, of a register or of a strip: the tests in rank, each on the book as it would be.
use Rattle.std.specs.Prelude.{None, Some}
use Rattle.std.proofs.Common.{◌≡◌, ℕ, ◌+◌, ◌<◌, Bool, true, false, leb, List, ◌++◌, map, length, sym, refl, ◌∙◌, eq-eqb, ne_eqb, le-leb}
use borrow.Author.Tests.{lt-leb}
use Rattle.rules.specs.declared.Request.{Request}
use Rattle.rules.specs.declared.Refusal.TheVariants.{WrongPhase, AlreadyPending, StripTwins, RowsFull, MarginBroken, Uncovered}
use Rattle.rules.specs.Basics.{any_passes}
use Rattle.rules.specs.Limits.{most_rows}
use Rattle.rules.specs.Verdicts.{first_to_apply}
use Rattle.rules.specs.Books.{Book, operator_of}
use Rattle.rules.specs.Requests.{register, strip, first_of}
use Rattle.rules.specs.Registration.{proposed, has_twin, twins, broken_hour, broken_by, covered}
use Rattle.rules.specs.Calls.{changed, state_checks, apply}
use Rattle.rules.proofs.Rows.AccountHours.{broken_added, exposure_added}
use Rattle.registration.specs.Cover.{covered_with_rows}
use Rattle.registration.specs.Proposing.{Addable}
use Rattle.registration.proofs.CoverLaws.{covered_at}

-- a strip is decided as a register of its requests
pub strip-decided : (b : Book) (qs : List Request) → first_to_apply (state_checks b strip qs) ≡ first_to_apply (state_checks b register qs)
unfolding state_checks
strip-decided b qs = refl

module _ (b : Book) (qs : List Request) where
  -- refusal 11
  pub adding_later : (b.phase ≡ 1 → ⊥) → first_to_apply (state_checks b register qs) ≡ Some WrongPhase
  unfolding state_checks first_to_apply
  adding_later n = rw (ne_eqb _ _ n)

  module _ (first : b.phase ≡ 1) where
    -- refusal 14: a pending row is like one of them
    pub twin_pending : any_passes (has_twin b.part.rows) qs ≡ true → first_to_apply (state_checks b register qs) ≡ Some AlreadyPending
    unfolding state_checks first_to_apply
    twin_pending e = rw (eq-eqb _ 1 first, e)

    module _ (alone : any_passes (has_twin b.part.rows) qs ≡ false) where
      -- refusal 22: two of them are alike
      pub twins_among : twins qs ≡ true → first_to_apply (state_checks b register qs) ≡ Some StripTwins
      unfolding state_checks first_to_apply
      twins_among e = rw (eq-eqb _ 1 first, alone, e)

      -- refusal 15: too few numbers are left
      pub no_numbers_left : twins qs ≡ false → most_rows < length b.part.rows + length qs → first_to_apply (state_checks b register qs) ≡ Some RowsFull
      unfolding state_checks first_to_apply
      no_numbers_left apart h = rw (eq-eqb _ 1 first, alone, apart, lt-leb (length b.part.rows + length qs) most_rows h)

module _ (b : Book) (qs : List Request) (p : Addable b qs) where
  room : leb (length b.part.rows + length qs) most_rows ≡ true
  room = le-leb _ most_rows p.has_room

  broken_next : broken_hour b.setup (changed register b qs).part.rows (first_of qs).account
      ≡ broken_by b.setup b.part.rows (map proposed qs) (first_of qs).account
  unfolding apply
  broken_next = broken_added b.setup b.part.rows (map proposed qs) (first_of qs).account

  -- refusal 18: they break a margin
  pub margin_breaks : (h : ℕ) → broken_by b.setup b.part.rows (map proposed qs) (first_of qs).account ≡ Some h
      → first_to_apply (state_checks b register qs) ≡ Some (MarginBroken h)
  unfolding state_checks first_to_apply
  margin_breaks h e = rw (eq-eqb _ 1 p.in_registration, p.none_standing, p.none_alike, room, broken_next ∙ e)

  module _ (kept : broken_by b.setup b.part.rows (map proposed qs) (first_of qs).account ≡ None) (t : Bool)
      (test : t ≡ covered_with_rows b (map proposed qs) (operator_of b.setup (first_of qs).account)) where
    -- the exposure is that of the rows with the proposed ones
    covered_next : covered b.setup (changed register b qs).part (operator_of b.setup (first_of qs).account) ≡ t
    unfolding apply
    covered_next =
        let o : ℕ = operator_of b.setup (first_of qs).account in
        covered_at b (b.part.rows ++ map proposed qs) o _ (sym (exposure_added b.setup b.part.rows (map proposed qs) o)) ∙ sym test

    -- refusal 19: the exposure is not covered
    pub rows_uncovered : t ≡ false → first_to_apply (state_checks b register qs) ≡ Some Uncovered
    unfolding state_checks first_to_apply
    rows_uncovered f = rw (eq-eqb _ 1 p.in_registration, p.none_standing, p.none_alike, room, broken_next ∙ kept, covered_next ∙ f)

    pub rows_covered : t ≡ true → first_to_apply (state_checks b register qs) ≡ None
    unfolding state_checks first_to_apply
    rows_covered f = rw (eq-eqb _ 1 p.in_registration, p.none_standing, p.none_alike, room, broken_next ∙ kept, covered_next ∙ f)

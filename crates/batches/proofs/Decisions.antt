-- What the state refuses kinds 5 to 8 for: of the checks that these kinds have, the first that applies.
use Rattle.std.specs.Prelude.{Err, Ok, None, Some}
use Prim.Native.Nat.{ℕ}
use mathlib.Core.Path.{◌≡◌, refl, sym, ◌∙◌}
use mathlib.Core.List.{[], ◌∷◌}
use mathlib.Core.Bool.{Bool, true, false, ◌||◌}
use native.Mathlib.Omega.{arith}
use lib.Dec.{eqb}
use borrow.Author.Tests.{eq-eqb}
use Rattle.rules.specs.declared.Request.{Request}
use Rattle.rules.specs.declared.Refusal.{Refusal}
use Rattle.rules.specs.declared.Refusal.TheVariants.{BatchOpen, NoBatch}
use Rattle.rules.specs.Basics.{is_some}
use Rattle.rules.specs.Verdicts.{first_to_apply, checked, Checked}
use Rattle.rules.specs.Books.{Book}
use Rattle.rules.specs.Requests.{Kind, open_batch, undo, keep, close_gate, kind_number, request_of}
use Rattle.rules.specs.Calls.{◌one_of◌, phase_of, state_checks}
use Rattle.rules.proofs.Checks.KindTables.{same_kind}
use Rattle.rules.proofs.Checks.Passed.{passed_13}
use Rattle.rules.proofs.Checks.Clearing.{checked-same}
use Rattle.book.specs.Kinds.{decided}
use Rattle.book.proofs.Answers.{decided_clear}

-- ---- one kind of two

module _ (P : Kind → Type 0) (i j k : Kind) where
  of_two_go : (s t : Bool) → eqb (kind_number k) (kind_number i) ≡ s → eqb (kind_number k) (kind_number j) ≡ t → s || (t || false) ≡ true
      → P i → P j → P k
  of_two_go true t e f m x y = rw (same_kind k i e) x
  of_two_go false true e f m x y = rw (same_kind k j f) y
  of_two_go false false e f m x y = let z : ◌≡◌ {A = ℕ} 0 1 = cc in absurd (omega arith)

  -- what holds of both kinds holds of a kind that is one of them
  of_two : k one_of (i ∷ j ∷ []) ≡ true → P i → P j → P k
  of_two m x y = of_two_go (eqb (kind_number k) (kind_number i)) (eqb (kind_number k) (kind_number j)) refl refl m x y

-- ---- the tests

module _ (b : Book) (q : Request) where
  module _ (first : b.phase ≡ 1) where
    -- refusal 12 of opening a batch and of closing the gate
    pub with_batch : (k : Kind) → k one_of (open_batch ∷ close_gate ∷ []) ≡ true → is_some b.saved ≡ true → decided k b q ≡ Some BatchOpen
    unfolding decided state_checks first_to_apply
    with_batch k m o =
        of_two (λ i. decided i b q ≡ Some BatchOpen) open_batch close_gate k m (rw (eq-eqb _ 1 first, o)) (rw (eq-eqb _ 1 first, o))

    pub outside_batch : (k : Kind) → k one_of (open_batch ∷ close_gate ∷ []) ≡ true → is_some b.saved ≡ false → decided k b q ≡ None
    unfolding decided state_checks first_to_apply
    outside_batch k m o =
        of_two (λ i. decided i b q ≡ None) open_batch close_gate k m (rw (eq-eqb _ 1 first, o)) (rw (eq-eqb _ 1 first, o))

    -- refusal 13 of undo and of keep
    pub without_batch : (k : Kind) → k one_of (undo ∷ keep ∷ []) ≡ true → is_some b.saved ≡ false → decided k b q ≡ Some NoBatch
    unfolding decided state_checks first_to_apply
    without_batch k m o =
        of_two (λ i. decided i b q ≡ Some NoBatch) undo keep k m (rw (eq-eqb _ 1 first, o)) (rw (eq-eqb _ 1 first, o))

    pub inside_batch : (k : Kind) → k one_of (undo ∷ keep ∷ []) ≡ true → is_some b.saved ≡ true → decided k b q ≡ None
    unfolding decided state_checks first_to_apply
    inside_batch k m o =
        of_two (λ i. decided i b q ≡ None) undo keep k m (rw (eq-eqb _ 1 first, o)) (rw (eq-eqb _ 1 first, o))

-- the phase of the two kinds that want no open batch, and of the two that want one
pub phase_outside : (k : Kind) → k one_of (open_batch ∷ close_gate ∷ []) ≡ true → phase_of k ≡ 1
phase_outside k m = of_two (λ i. phase_of i ≡ 1) open_batch close_gate k m refl refl

pub phase_inside : (k : Kind) → k one_of (undo ∷ keep ∷ []) ≡ true → phase_of k ≡ 1
phase_inside k m = of_two (λ i. phase_of i ≡ 1) undo keep k m refl refl

-- what undo and keep accept has a batch open
pub ending_finds_batch : (k : Kind) (b : Book) (q : Request) → k one_of (undo ∷ keep ∷ []) ≡ true → decided k b q ≡ None → is_some b.saved ≡ true
ending_finds_batch k b q m =
    of_two (λ i. decided i b q ≡ None → is_some b.saved ≡ true) undo keep k m
    (λ d. let (p, e) = passed_13 b (q ∷ []) undo refl (decided_clear undo b q d) in rw e)
    (λ d. let (p, e) = passed_13 b (q ∷ []) keep refl (decided_clear keep b q d) in rw e)

-- ---- what the check of a kind found

module _ (k : Kind) (b : Book) (fault : Checked) (each : (q : Request) → fault ≡ checked (decided k b q)) where
  pub refused_for : {r : Refusal} → fault ≡ Err r → (q : Request) → decided k b q ≡ Some r
  refused_for e q = checked-same _ (Some _) (sym (each q) ∙ e)

  pub nothing_decided : fault ≡ (Ok tt) → (q : Request) → decided k b q ≡ None
  nothing_decided e q = checked-same _ None (sym (each q) ∙ e)

  -- undo and keep find a batch open
  pub finds_batch : k one_of (undo ∷ keep ∷ []) ≡ true → fault ≡ (Ok tt) → is_some b.saved ≡ true
  finds_batch m e = ending_finds_batch k b (request_of []) m (nothing_decided e (request_of []))

-- The schedules of one account, hour and side are settled as if no others stood: only they are counted together.
use Rattle.std.specs.Prelude.{if◌then◌else◌}
use Prim.Native.Nat.{ℕ, suc, ◌+◌}
use mathlib.Core.Path.{◌≡◌, refl, ◌∙◌, sym, ap}
use mathlib.Core.Logic.{◌↔◌, inl, inr}
use mathlib.Core.List.{List, [], ◌∷◌}
use mathlib.Core.Bool.{Bool, true, false, ◌&&◌}
use native.Mathlib.Nat.{zero-add}
use native.Mathlib.Omega.{arith}
use lib.ListN.{get_or}
use lib.Dec.{eqb}
use borrow.Author.Tests.{eqb-true, eq-eqb}
use Rattle.units.specs.declared.CentsPerMwh.{CentsPerMwh}
use Rattle.rules.specs.declared.Net.{Net}
use Rattle.rules.specs.declared.Schedule.{Schedule}
use Rattle.rules.specs.declared.Placed.{Placed}
use Rattle.rules.specs.Basics.{total, Each, nil, cons}
use Rattle.rules.specs.Books.{Setup, point_at}
use Rattle.rules.specs.Settlement.{placed, prioritised, Judged, congruous, used, account_of, same_hour_side, judge, judged, settled, result_at}
use Rattle.rules.proofs.Basics.Tests.{true_or_false, test_fails, and_both}
use Rattle.rules.proofs.Basics.Searches.{each_any, each_map}
use Rattle.rules.proofs.Settling.SettledTotal.{each_settled_place}
use Rattle.rules.proofs.Settling.PriorityLaws.{only, only_in, only_out, only_prioritised, placed_at}

-- what is judged of the schedules that pass
abbrev pub only_judged : (Schedule → Bool) → List Judged → List Judged
only_judged q js = only (λ j. q j.schedule) js

-- the schedules that pass, with their places
abbrev pub only_placed : (Schedule → Bool) → List Placed → List Placed
only_placed q xs = only (λ x. q x.schedule) xs

-- what adds nothing may be left out
total_only {ℓ} : {A : Type ℓ} (f : A → ℕ) (p : A → Bool) (xs : List A) → Each (λ x. p x ≡ false → f x ≡ 0) xs → total f (only p xs) ≡ total f xs
unfolding total only
total_only f p [] nil = refl
total_only f p (x ∷ xs) (cons h e) = elim (true_or_false (p x)) [
  | inl t ↦ rw (only_in p x xs t) (ap (λ (n : ℕ). f x + n) (total_only f p xs e))
  | inr t ↦ rw (only_out p x xs t, h t, zero-add) (total_only f p xs e)
]

not_counted : (t : Bool) (n : ℕ) → (if t && false then n else 0) ≡ 0
not_counted true n = refl
not_counted false n = refl

used_only : (p q : Schedule → Bool) → ((y : Schedule) → p y ≡ true → q y ≡ true) → (js : List Judged) → used p (only_judged q js) ≡ used p js
unfolding used
used_only p q h js =
    total_only _ _ js (each_any js (λ j e. rw (test_fails _ _ (h j.schedule) e, not_counted (congruous j) j.schedule.quantity.0)))

module _ (u : Setup) (net : ℕ → ℕ → Net) (t : List CentsPerMwh) where
  -- of the same account, hour and side
  unfoldable pub alike : Schedule → Schedule → Bool
  alike x y = same_hour_side u net t x y && eqb (account_of u net t x) (account_of u net t y)

  pub alike_true : (x y : Schedule) → (alike x y ≡ true) ↔ ((x.hour ≡ y.hour) × (x.side ≡ y.side) × (account_of u net t x ≡ account_of u net t y))
  unfolding alike
  alike_true x y =
      let b = and_both (same_hour_side u net t x y) (eqb (account_of u net t x) (account_of u net t y)) in
      let c = and_both (eqb x.hour y.hour) (eqb x.side y.side) in (
        (λ e. (eqb-true _ _ (c.0 (b.0 e).0).0, eqb-true _ _ (c.0 (b.0 e).0).1, eqb-true _ _ (b.0 e).1)),
        (λ h. b.1 (c.1 (eq-eqb _ _ h.0, eq-eqb _ _ h.1), eq-eqb _ _ h.2)),
      )

  -- a point is on one account
  point_alike : (x y : Schedule) → same_hour_side u net t x y && eqb x.point y.point ≡ true → alike x y ≡ true
  point_alike x y h =
      let b = (and_both (same_hour_side u net t x y) (eqb x.point y.point)).0 h in
      let c = (and_both (eqb x.hour y.hour) (eqb x.side y.side)).0 b.0 in
      (alike_true x y).1 (eqb-true _ _ c.0, eqb-true _ _ c.1, ap (λ (n : ℕ). (point_at u n).account) (eqb-true x.point y.point b.1))

  alike_alike : (x y z : Schedule) → alike x y ≡ true → alike y z ≡ true → alike x z ≡ true
  alike_alike x y z h g =
      let a = (alike_true x y).0 h in
      let b = (alike_true y z).0 g in
      (alike_true x z).1 (a.0 ∙ b.0, a.1 ∙ b.1, a.2 ∙ b.2)

  -- a result depends on no schedule of another account, hour or side
  pub judge_apart : (q : Schedule → Bool) (before : List Judged) (x : Schedule) → ((y : Schedule) → alike x y ≡ true → q y ≡ true)
      → judge u net t (only_judged q before) x ≡ judge u net t before x
  unfolding judge alike
  judge_apart q before x h =
      let a = used_only (λ y. same_hour_side u net t x y && eqb x.point y.point) q (λ y e. h y (point_alike x y e)) before in
      rw (a, used_only (alike x) q h before)

  -- schedules that pass a test, and with each all that are alike, are judged as if no others stood
  judged_apart : (q : Schedule → Bool) → ((x y : Schedule) → q x ≡ true → alike x y ≡ true → q y ≡ true) → (before : List Judged) (xs : List Placed)
      → only_judged q (judged u net t before xs) ≡ judged u net t (only_judged q before) (only_placed q xs)
  unfolding judged only
  judged_apart q h before [] = refl
  judged_apart q h before (x ∷ xs) =
      let j : Judged = record { place = x.place; schedule = x.schedule; result = judge u net t before x.schedule } in
      let ih = judged_apart q h (j ∷ before) xs in
      elim (true_or_false (q x.schedule)) [
        | inl e ↦ ih ∙ rw (only_in (λ i. q i.schedule) j before e, only_in (λ i. q i.schedule) x xs e, ← judge_apart q before x.schedule (λ y. h x.schedule y e))
        | inr e ↦ ih ∙ rw (only_out (λ i. q i.schedule) j before e, only_out (λ i. q i.schedule) x xs e)
      ]

  -- what is settled of one account, hour and side is what its own schedules, put in order among themselves, come to
  pub settled_apart : (x : Schedule) (xs : List Schedule)
      → only_judged (alike x) (settled u net t xs) ≡ judged u net t [] (prioritised (only_placed (alike x) (placed 1 xs)))
  unfolding settled only
  settled_apart x xs =
      judged_apart (alike x) (alike_alike x) [] (prioritised (placed 1 xs)) ∙ ap (judged u net t []) (only_prioritised (λ y. alike x y.schedule) (placed 1 xs))

  -- a schedule of another account, hour or side stands at another place
  elsewhere : (x : Schedule) (k : ℕ) (j : Judged) → (j.place ≡ k → j.schedule ≡ x) → alike x j.schedule ≡ false → (if eqb j.place k then j.result else 0) ≡ 0
  elsewhere x k j h out = elim (true_or_false (eqb j.place k)) [
    | inl e ↦
        let same : alike x j.schedule ≡ true = rw (h (eqb-true j.place k e)) ((alike_true x x).1 (refl, refl, refl)) in
        let z : true ≡ false = cc in
        cc
    | inr e ↦ rw e
  ]

  -- the result of a schedule is what it is among those of its own account, hour and side
  pub result_apart : (xs : List Schedule) (i : ℕ) (d : Schedule)
      → result_at u net t (settled u net t xs) (suc i)
      ≡ result_at u net t (judged u net t [] (prioritised (only_placed (alike (get_or xs i d)) (placed 1 xs)))) (suc i)
  unfolding result_at
  result_apart xs i d =
      let x = get_or xs i d in
      let received = each_settled_place u net t (λ n y. (k : ℕ) → n ≡ 1 + k → y ≡ get_or xs k d) xs (placed_at 1 xs d) in
      let share : Judged → ℕ = λ j. if eqb j.place (suc i) then j.result else 0 in
      sym (total_only share (λ j. alike x j.schedule) (settled u net t xs) (each_map (λ j h. elsewhere x (suc i) j (λ e. h i (e ∙ omega arith))) received))
      ∙ ap (total share) (settled_apart x xs)

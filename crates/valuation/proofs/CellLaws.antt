-- The table of what is used up: owners, hours and sides in range have each a cell of their own, so that what falls to the cell of a schedule
-- is what those of its owner, hour and side use up; the table of no schedule, that of one more, and its room.
use Rattle.std.specs.Prelude.{if◌then◌else◌}
use Prim.Native.Nat.{ℕ, ◌+◌, ◌-◌, ◌*◌, ◌^◌, ◌≤◌, ◌<◌}
use mathlib.Core.Path.{◌≡◌, refl, sym, ap, ◌∙◌}
use mathlib.Core.List.{List, [], ◌∷◌}
use mathlib.Core.Bool.{Bool, true, false, ◌&&◌}
use mathlib.Core.Logic.{⊎_elim}
use native.Mathlib.Omega.{arith}
use lib.ListN.{length, get_or, set, length-set, length-replicate, get_or-replicate, get_or-eq_default}
use lib.Seq.{get_or-set_other, get_or-set_same}
use lib.Dec.{eqb}
use borrow.Author.Tests.{eqb-true, eqb-false, eq-eqb}
use Rattle.units.specs.declared.CentsPerMwh.{CentsPerMwh}
use Rattle.rules.specs.declared.Net.{Net}
use Rattle.rules.specs.declared.Schedule.{Schedule}
use Rattle.rules.specs.Basics.{total, Each, nil, cons}
use Rattle.rules.specs.Limits.{most_energy, most_schedules, most_points, most_accounts}
use Rattle.rules.specs.Books.{Setup}
use Rattle.rules.specs.Settlement.{Judged, congruous, used, account_of}
use Rattle.rules.proofs.Basics.Tests.{test_same, and_both}
use Rattle.rules.proofs.Basics.Totals.{total_same}
use Rattle.rules.proofs.Basics.Searches.{each_map}
use Rattle.rules.proofs.Basics.Differences.{lt_or_ge}
use Rattle.image.specs.Valid.{schedule_ok}
use Rattle.image.specs.Tables.{Room}
use Rattle.image.proofs.Sound.Soundness.{sound_schedule}
use Rattle.valuation.specs.Tables.{cell_for, point_cells, account_cells, used_up, falls_to, UsedBy, used_cells}
use Rattle.valuation.specs.Congruity.{InCells, nothing_used}

-- ---- a cell of its own

-- the same owner, hour and side is the same cell
same_cell : (most a b : ℕ) (x y : Schedule) → InCells most a x → InCells most b y
    → ((eqb x.hour y.hour && eqb x.side y.side) && eqb a b) ≡ eqb (cell_for b y) (cell_for a x)
same_cell most a b x y i k =
    let hours : Bool = eqb x.hour y.hour in
    let sides : Bool = eqb x.side y.side in
    let owners : Bool = eqb a b in
    test_same ((hours && sides) && owners) (eqb (cell_for b y) (cell_for a x))
    (λ e.
    let w = (and_both (hours && sides) owners).0 e in
    let v = (and_both hours sides).0 w.0 in
    let h = eqb-true x.hour y.hour v.0 in
    let d = eqb-true x.side y.side v.1 in
    let o = eqb-true a b w.1 in
    eq-eqb (cell_for b y) (cell_for a x) (omega arith))
    (λ e.
    let same = eqb-true (cell_for b y) (cell_for a x) e in
    let o : a ≡ b = omega arith in
    let h : x.hour ≡ y.hour = omega arith in
    let d : x.side ≡ y.side = omega arith in
    (and_both (hours && sides) owners).1 ((and_both hours sides).1 (eq-eqb _ _ h, eq-eqb _ _ d), eq-eqb _ _ o))

-- two tests, one within the other
test_within : (s t : Bool) (q : ℕ) → (if s && t then q else 0) ≡ (if t then (if s then q else 0) else 0)
test_within true true q = refl
test_within true false q = refl
test_within false true q = refl
test_within false false q = refl

-- what those of the owner, hour and side use up falls to the cell
pub used_in_cell : (most : ℕ) (holder : Schedule → ℕ) (x : Schedule) {before : List Judged} → InCells most (holder x) x
    → Each (λ j. InCells most (holder j.schedule) j.schedule) before
    → used (λ y. (eqb x.hour y.hour && eqb x.side y.side) && eqb (holder x) (holder y)) before
    ≡ falls_to (λ j. cell_for (holder j.schedule) j.schedule) used_up before (cell_for (holder x) x)
unfolding used falls_to
used_in_cell most holder x i e =
    total_same _ _
    (λ j k. rw (same_cell most (holder x) (holder j.schedule) x j.schedule i k) (test_within (congruous j) _ j.schedule.quantity.0))
    e

-- ---- no schedule

-- the table of nothing used
pub nothing_used_lem : (u : Setup) (net : ℕ → ℕ → Net) (t : List CentsPerMwh) (table : List ℕ) → table ≡ nothing_used → UsedBy u net t [] table
unfolding nothing_used falls_to total
nothing_used_lem u net t table e =
    rw e (record {
      whole = length-replicate {A = ℕ} used_cells 0;
      by_point = λ k l. get_or-replicate used_cells k 0 0 (omega arith);
      by_account = λ k l. get_or-replicate used_cells (point_cells + k) 0 0 (omega arith);
    })

-- ---- one schedule more

-- a cell that is raised, and every other
pub raised_cell : (table : List ℕ) (k q i : ℕ) → k < length table
    → get_or (set table k (get_or table k 0 + q)) i 0 ≡ (if eqb k i then q else 0) + get_or table i 0
raised_cell table k q i h = go (eqb k i) refl
  where
    go : (t : Bool) → eqb k i ≡ t → get_or (set table k (get_or table k 0 + q)) i 0 ≡ (if t then q else 0) + get_or table i 0
    go true e = let same = eqb-true k i e in rw (← same) (get_or-set_same table k _ 0 h ∙ omega arith)
    go false e = let other = eqb-false k i e in get_or-set_other table k i _ 0 (λ z. other (sym z)) ∙ omega arith

-- what falls to a key with one more
falls_next : {A : Type 0} (key amount : A → ℕ) (x : A) (xs : List A) (k : ℕ)
    → falls_to key amount (x ∷ xs) k ≡ (if eqb (key x) k then amount x else 0) + falls_to key amount xs k
unfolding falls_to total
falls_next key amount x xs k = refl

-- cells further on are the same where they were
shifted : (n a b : ℕ) → eqb (n + a) (n + b) ≡ eqb a b
shifted n a b =
    test_same _ _
    (λ e. let f = eqb-true (n + a) (n + b) e in eq-eqb a b (omega arith))
    (λ e. let f = eqb-true a b e in eq-eqb (n + a) (n + b) (omega arith))

-- the table in which it has its share at its point and at its account
pub used-next : (u : Setup) (net : ℕ → ℕ → Net) (t : List CentsPerMwh) {before : List Judged} (table middle after : List ℕ) (j : Judged) (q p a : ℕ)
    → InCells most_points j.schedule.point j.schedule → InCells most_accounts (account_of u net t j.schedule) j.schedule
    → q ≡ used_up j → p ≡ cell_for j.schedule.point j.schedule → a ≡ cell_for (account_of u net t j.schedule) j.schedule
    → middle ≡ set table p (get_or table p 0 + q) → after ≡ set middle (point_cells + a) (get_or middle (point_cells + a) 0 + q)
    → UsedBy u net t before table → UsedBy u net t (j ∷ before) after
used-next u net t {before} table middle after j q p a ip ia eq ep ea em ef by =
    record {
      whole = whole;
      by_point = λ k l.
          ap (λ (s : List ℕ). get_or s k 0) ef
          ∙ get_or-set_other middle (point_cells + a) k _ 0 (λ z. omega arith)
          ∙ ap (λ (s : List ℕ). get_or s k 0) em
          ∙ raised_cell table p q k (omega (arith, by.whole))
          ∙ rw (by.by_point k l, eq, ep) (sym (falls_next _ used_up j before k));
      by_account = λ k l.
          ap (λ (s : List ℕ). get_or s (point_cells + k) 0) ef
          ∙ raised_cell middle (point_cells + a) q (point_cells + k) (omega (arith, halfway))
          ∙ rw (shifted point_cells a k, kept k ∙ by.by_account k l, eq, ea) (sym (falls_next _ used_up j before k));
    }
  where
    halfway : length middle ≡ point_cells + account_cells
    halfway = ap length em ∙ length-set table p _ ∙ by.whole

    whole : length after ≡ point_cells + account_cells
    whole = ap length ef ∙ length-set middle (point_cells + a) _ ∙ halfway

    kept : (k : ℕ) → get_or middle (point_cells + k) 0 ≡ get_or table (point_cells + k) 0
    kept k = ap (λ (s : List ℕ). get_or s (point_cells + k) 0) em ∙ get_or-set_other table p (point_cells + k) _ 0 (λ z. omega arith)

-- the room that it needs at its point, and then at its account
pub room_here : (table : List ℕ) (k q most : ℕ) → Room table 0 most → q ≤ most
    → length table ≡ point_cells + account_cells → k < point_cells + account_cells → (k < length table) × (get_or table k 0 + q < 2 ^ 32)
room_here table k q most room l whole here = (omega arith, omega (arith, room k (omega arith)))

pub room_next : (table middle : List ℕ) (p v k q most : ℕ) → middle ≡ set table p v → p < k → Room table 0 most → q ≤ most
    → length table ≡ point_cells + account_cells → k < point_cells + account_cells → (k < length middle) × (get_or middle k 0 + q < 2 ^ 32)
room_next table middle p v k q most e apart room l whole here =
    let other = get_or-set_other table p k v 0 (λ z. omega arith) in
    let size = length-set table p v in
    rw e (omega arith, omega (arith, room k (omega arith)))

-- ---- room

-- what is used up is at most the quantity
used_low : (s t : Bool) (q : ℕ) → (if s then (if t then q else 0) else 0) ≤ q
used_low true true q = omega arith
used_low true false q = omega arith
used_low false t q = omega arith

-- what falls to a cell is no more than all quantities together
falls_low : (key : Judged → ℕ) (k : ℕ) {js : List Judged} → Each (λ j. j.schedule.quantity.0 ≤ most_energy) js
    → falls_to key used_up js k ≤ most_energy * length js
unfolding falls_to total
falls_low key k nil = omega arith
falls_low key k (cons {x = j} q e) =
    let ih = falls_low key k e in
    let l = used_low (eqb (key j) k) (congruous j) j.schedule.quantity.0 in
    omega arith

-- what is used up leaves room for a schedule more
pub used_room : (u : Setup) (net : ℕ → ℕ → Net) (t : List CentsPerMwh) {js : List Judged} (table : List ℕ) (q : ℕ) → UsedBy u net t js table
    → Each (λ j. schedule_ok u j.schedule ≡ true) js → length js < most_schedules → q ≤ most_energy → Room table 0 q
used_room u net t {js} table q by each few l k low =
    let small = each_map (λ j o. (sound_schedule u j.schedule o).quantity_high) each in
    let bound : get_or table k 0 ≤ most_energy * length js =
    ⊎_elim
    (λ (w : k < point_cells). omega (arith, by.by_point k w, falls_low (λ j. cell_for j.schedule.point j.schedule) k small))
    (λ (w : point_cells ≤ k).
    ⊎_elim
    (λ (v : k < point_cells + account_cells).
    let i : ℕ = k - point_cells in
    let here : point_cells + i ≡ k = omega arith in
    let falls = falls_low (λ j. cell_for (account_of u net t j.schedule) j.schedule) i small in
    omega (arith, rw here at (by.by_account i (omega arith)), falls))
    (λ (v : point_cells + account_cells ≤ k). omega (arith, get_or-eq_default table 0 {n = k} (omega (arith, by.whole))))
    (lt_or_ge k (point_cells + account_cells)))
    (lt_or_ge k point_cells) in
    omega arith

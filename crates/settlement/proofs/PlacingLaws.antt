-- The schedules of a book with their places: each stands in its bytes, its place is its own, and the order of priority keeps both.
use Rattle.std.specs.Prelude.{if◌then◌else◌}
use Prim.Native.Nat.{ℕ, zero, suc, ◌+◌, ◌*◌, ◌≤◌, ◌<◌}
use mathlib.Core.Path.{◌≡◌, refl, ap, ◌∙◌}
use mathlib.Core.Logic.{inl, inr}
use mathlib.Core.List.{List, [], ◌∷◌}
use mathlib.Core.Bool.{Bool, true, false}
use native.Mathlib.Nat.{add-zero, add-suc, suc-add}
use native.Mathlib.Numerals.{add-one}
use native.Mathlib.Omega.{arith}
use lib.ListN.{length, get_or, set, take, drop, length-replicate}
use lib.Seq.{take-suc, take-suc-set}
use lib.Dec.{eqb}
use borrow.Author.Tests.{eqb-true, eq-eqb, ne_eqb}
use Rattle.rules.specs.declared.Schedule.{Schedule}
use Rattle.rules.specs.declared.Placed.{Placed}
use Rattle.rules.specs.Basics.{total, Each, nil, cons}
use Rattle.rules.specs.Limits.{most_hours, most_schedules, book_size}
use Rattle.rules.specs.Books.{Book}
use Rattle.rules.specs.Settlement.{placed, insert, prioritised}
use Rattle.rules.proofs.Basics.Searches.{each_at, each_map}
use Rattle.rules.proofs.Settling.PriorityLaws.{insert_cases}
use Rattle.priority.specs.Order.{no_placed, no_schedules}
use Rattle.image.specs.Layout.{schedule_width, schedules_offset}
use Rattle.image.specs.Image.{schedule_bytes, schedule_in}
use Rattle.image.specs.Valid.{is_sound, book_in}
use Rattle.image.proofs.Reading.ImageReads.{schedule_read}
use Rattle.image.proofs.Round.{schedule_back}
use Rattle.book.proofs.StateLaws.{book_image, book_fits, book_is_sound}

-- ---- read one after the other

-- a schedule of a book stands in its 11 bytes
pub schedule_stands : (s : List ℕ) (h : is_sound s ≡ true) (i at : ℕ) (d : Schedule) → i < length (book_in s).schedules → at ≡ schedules_offset + schedule_width * i
    → schedule_in (take schedule_width (drop at s)) ≡ get_or (book_in s).schedules i d
schedule_stands s h i at d l e =
    let b : Book = book_in s in
    let x : Schedule = get_or b.schedules i d in
    let here : take schedule_width (drop at s) ≡ schedule_bytes x =
    ap (λ (t : List ℕ). take schedule_width (drop at t)) (book_image s h) ∙ schedule_read most_hours book_size b (book_fits s h) i at d l e in
    ap schedule_in here ∙ schedule_back b.setup (book_is_sound s h).setup_sound x (each_at d i (book_is_sound s h).schedules_sound l)

pub none_placed : (all : List Placed) → all ≡ no_schedules → length all ≡ most_schedules
unfolding no_schedules
none_placed all e = ap length e ∙ length-replicate {A = Placed} most_schedules no_placed

pub length-placed : (n : ℕ) (xs : List Schedule) → length (placed n xs) ≡ length xs
unfolding placed
length-placed n [] = refl
length-placed n (x ∷ xs) = ap suc (length-placed (suc n) xs)

placed-get : (n i : ℕ) (xs : List Schedule) → i < length xs
    → get_or (placed n xs) i no_placed ≡ record { place = n + i; schedule = get_or xs i no_placed.schedule }
unfolding placed
placed-get n i [] h = absurd (omega arith)
placed-get n zero (x ∷ xs) h = rw (add-zero n)
placed-get n (suc i) (x ∷ xs) h = rw (placed-get (suc n) i xs (omega arith), suc-add, add-suc)

-- one schedule more has its place
pub placed-next : (xs : List Schedule) (all : List Placed) (k place : ℕ) (x : Schedule) → k < length all → k < length xs → place ≡ k + 1
    → x ≡ get_or xs k no_placed.schedule → take k all ≡ take k (placed 1 xs)
    → take (k + 1) (set all k (record { place = place; schedule = x })) ≡ take (k + 1) (placed 1 xs)
placed-next xs all k place x h g p e ih =
    let size = length-placed 1 xs in
    let here : 1 + k ≡ k + 1 = omega arith in
    rw (add-one k, take-suc-set all k (record { place = place; schedule = x }) h, take-suc (placed 1 xs) k no_placed (omega arith), placed-get 1 k xs g, ih, e, p, here)

-- ---- what the order of priority keeps

total_insert : (f : Placed → ℕ) (x : Placed) (ys : List Placed) → total f (insert x ys) ≡ f x + total f ys
unfolding insert total
total_insert f x [] = refl
total_insert f x (y ∷ ys) = elim (insert_cases x y ys) [
  | inl (first, e) ↦ ap (total f) e
  | inr (later, e) ↦ ap (total f) e ∙ (let ih = total_insert f x ys in omega arith)
]

pub total_prioritised : (f : Placed → ℕ) (xs : List Placed) → total f (prioritised xs) ≡ total f xs
unfolding prioritised total
total_prioritised f [] = refl
total_prioritised f (x ∷ xs) = total_insert f x (prioritised xs) ∙ ap (λ (n : ℕ). f x + n) (total_prioritised f xs)

length-insert : (x : Placed) (ys : List Placed) → length (insert x ys) ≡ suc (length ys)
unfolding insert
length-insert x [] = refl
length-insert x (y ∷ ys) = elim (insert_cases x y ys) [ inl (first, e) ↦ ap length e | inr (later, e) ↦ ap length e ∙ ap suc (length-insert x ys) ]

pub length-prioritised : (xs : List Placed) → length (prioritised xs) ≡ length xs
unfolding prioritised
length-prioritised [] = refl
length-prioritised (x ∷ xs) = length-insert x (prioritised xs) ∙ ap suc (length-prioritised xs)

-- ---- each place once

-- how many of them have the place
abbrev pub times_at : ℕ → List Placed → ℕ
times_at p xs = total (λ x. if eqb x.place p then 1 else 0) xs

-- places count up
pub placed-within : (n : ℕ) (xs : List Schedule) → Each (λ x. (n ≤ x.place) × (x.place < n + length xs)) (placed n xs)
unfolding placed
placed-within n [] = nil
placed-within n (x ∷ xs) =
    cons {x = record { place = n; schedule = x }} (omega arith, omega arith)
    (each_map (λ y w. (omega (arith, w.0), omega (arith, w.1))) (placed-within (suc n) xs))

placed_after : (p n : ℕ) (xs : List Schedule) → p < n → times_at p (placed n xs) ≡ 0
unfolding placed total
placed_after p n [] h = refl
placed_after p n (x ∷ xs) h = let ih = placed_after p (suc n) xs (omega arith) in rw (ne_eqb n p (λ e. omega arith)) (omega arith)

once_go : (p n : ℕ) (xs : List Schedule) (t : Bool) → eqb n p ≡ t → times_at p (placed (suc n) xs) ≤ 1 → (if t then 1 else 0) + times_at p (placed (suc n) xs) ≤ 1
once_go p n xs true e ih = let same = eqb-true n p e in let none = placed_after p (suc n) xs (omega arith) in omega arith
once_go p n xs false e ih = omega arith

placed_once : (p n : ℕ) (xs : List Schedule) → times_at p (placed n xs) ≤ 1
unfolding placed total
placed_once p n [] = omega arith
placed_once p n (x ∷ xs) = once_go p n xs (eqb n p) refl (placed_once p (suc n) xs)

-- so it is in order of priority
pub ordered_once : (p : ℕ) (xs : List Schedule) → times_at p (prioritised (placed 1 xs)) ≤ 1
ordered_once p xs = rw (total_prioritised _ (placed 1 xs)) (placed_once p 1 xs)

-- one that stands in the list counts
stands_counts : (ys : List Placed) (k : ℕ) → k < length ys → 1 ≤ times_at (get_or ys k no_placed).place ys
unfolding total
stands_counts [] k h = absurd (omega arith)
stands_counts (y ∷ ys) zero h = rw (eq-eqb y.place y.place refl) (omega arith)
stands_counts (y ∷ ys) (suc k) h = let ih = stands_counts ys k (omega arith) in omega arith

-- where no place comes twice, none of those before it has its place
pub none_before : (ys : List Placed) (k : ℕ) → k < length ys → times_at (get_or ys k no_placed).place ys ≤ 1
    → times_at (get_or ys k no_placed).place (take k ys) ≡ 0
unfolding total
none_before [] k h o = absurd (omega arith)
none_before (y ∷ ys) zero h o = refl
none_before (y ∷ ys) (suc k) h o =
    let there = stands_counts ys k (omega arith) in
    let ih = none_before ys k (omega arith) (omega arith) in
    omega arith

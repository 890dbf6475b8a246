-- Gathered lines: what a step prints is put behind the lines in the buffer, and is the front of the text that was to come.
use Rattle.std.specs.Prelude.{if◌then◌else◌, Option, None, Some}
use Prim.Native.Nat.{ℕ, zero, suc, ◌+◌, ◌-◌, ◌≤◌, ◌<◌}
use mathlib.Core.Path.{◌≡◌, refl, sym, ap, ◌∙◌}
use mathlib.Core.Logic.{◌⊎◌, ⊎_elim}
use mathlib.Core.List.{List, [], ◌∷◌, ◌++◌, append_assoc, append-nil}
use mathlib.Core.Bool.{Bool, true, false}
use native.Mathlib.Numerals.{add-one}
use native.Mathlib.Omega.{arith}
use lib.ListN.{length, take, drop, length-append, length-drop, take-append-drop}
use lib.Seq.{take_at, take_all, drop-length, length-take-le}
use lib.Dec.{ltb}
use borrow.Author.Tests.{le-leb, lt-leb}
use Rattle.wire.specs.Numbers.{Bytes}
use Rattle.wire.specs.Regions.{splice}
use Rattle.wire.proofs.NumberLaws.{bytes_take, bytes_drop}
use Rattle.wire.proofs.RegionLaws.{splice_take_drop, splice_right}
use Rattle.rules.specs.declared.Refusal.{Refusal}
use Rattle.rules.specs.Limits.{most_hours, book_size, longest_stream}
use Rattle.rules.specs.Books.{Book}
use Rattle.rules.specs.Opening.{setup_refusal}
use Rattle.rules.specs.Replay.{long, call_of, replay, text}
use Rattle.items.specs.declared.Found.{Found}
use Rattle.items.specs.declared.Found.TheVariants.{Whole, Cut, End}
use Rattle.items.specs.Stream.{record_length, found_at}
use Rattle.items.proofs.StreamLaws.{record_bytes}
use Rattle.image.specs.Valid.{valid, is_book, book_in}
use Rattle.image.proofs.Round.{book_is_image}
use Rattle.image.proofs.Keeping.Keeps.{keeps_valid}
use Rattle.image.proofs.Keeping.Opened.{opened_valid}
use Rattle.day.proofs.Images.{image_says}
use Rattle.replaying.specs.declared.Stepped.{Stepped}
use Rattle.replaying.specs.declared.Gathered.{Gathered}
use Rattle.replaying.specs.Steps.{Onward, Step, ends_after, item_in, open_step, first_step, beginning, item_step, step_at, lines_on}
use Rattle.replaying.specs.Lent.{step_room, next_of, book_on, printed, stepped}
use Rattle.replaying.specs.Gathering.{Progress, so_far, first_gathered, takes_another, item_gathered, items_gathered, all_gathered, text_from, whole_text}
use Rattle.replaying.proofs.ReplayLaws.{text_begins, text-step}

-- ---- the book that a walk goes on with is valid, and so it is read back from its bytes

abbrev ValidOn : Option Onward → Type 0
ValidOn None = Unit {0}
ValidOn (Some o) = valid o.book ≡ true

open_valid : (setup : List ℕ) (end : ℕ) (r : Option Refusal) → setup_refusal setup ≡ r → ValidOn (open_step setup end r).onward
unfolding open_step
open_valid setup end (Some r) e = tt
open_valid setup end None e = opened_valid setup e

first_valid : (s : List ℕ) (f : Found) → ValidOn (first_step s f).onward
unfolding first_step
first_valid s End = tt
first_valid s Cut = tt
first_valid s (Whole from end) = open_valid (item_in s from end) end (setup_refusal (item_in s from end)) refl

begin_valid_go : (s : List ℕ) (t : Bool) → ValidOn (if t then ends_after (long ∷ []) else first_step s (found_at s 0)).onward
begin_valid_go s true = tt
begin_valid_go s false = first_valid s (found_at s 0)

begin_valid : (s : List ℕ) → ValidOn (beginning s).onward
unfolding beginning
begin_valid s = begin_valid_go s (ltb longest_stream (length s))

item_valid : (b : Book) → valid b ≡ true → (n : ℕ) {s : List ℕ} → Bytes s → (f : Found) → ValidOn (item_step b n s f).onward
unfolding item_step
item_valid b v n h End = tt
item_valid b v n h Cut = tt
item_valid b v n {s} h (Whole from end) =
    let item : List ℕ = item_in s from end in
    let bytes : Bytes item = bytes_take (end - from) (bytes_drop from h) in
    keeps_valid b (call_of item) (rw (← record_bytes item) (bytes_take (record_length item) bytes)) v

-- the text to come on the bytes that a step left
come_on : (x : Option Onward) → ValidOn x → (n : ℕ) (s book : List ℕ)
    → text_from (book_in (book_on x book)) n s (next_of x) ≡ text (lines_on n s x)
unfolding lines_on text
come_on None v n s book = refl
come_on (Some o) v n s book = rw (image_says o.book v)

-- ---- text put behind the lines in a buffer

front : (part p : List ℕ) → take (length p) (splice part 0 p) ≡ p
front part p = rw (splice_take_drop part 0 p) (take_at p (drop (0 + length p) part) (length p) refl)

behind : (out : List ℕ) (end : ℕ) (p part rest : List ℕ) → end ≤ length out
    → take (end + length p) (take end out ++ (splice part 0 p ++ rest)) ≡ take end out ++ p
behind out end p part rest h =
    let l : length (take end out ++ p) ≡ end + length p = length-append (take end out) p ∙ rw (length-take-le end out h) in
    let d : List ℕ = drop (0 + length p) part in
    let g : splice part 0 p ++ rest ≡ p ++ (d ++ rest) = rw (splice_take_drop part 0 p) (append_assoc p d rest) in
    rw (g, ← append_assoc (take end out) p (d ++ rest)) (take_at (take end out ++ p) (d ++ rest) (end + length p) l)

-- a buffer whose part from `end` on has p at its front
put_behind : (out : List ℕ) (end : ℕ) (p : List ℕ) → end ≤ length out
    → take end out ++ (splice (take (length out - end) (drop end out)) 0 p ++ drop (length out - end) (drop end out)) ≡ splice out end p
put_behind out end p h =
    let l : length (drop end out) ≡ length out - end = length-drop end out in
    let all : take (length out - end) (drop end out) ≡ drop end out = take_all (length out - end) (drop end out) (omega arith) in
    let nothing : drop (length out - end) (drop end out) ≡ [] = rw (← l) (drop-length (drop end out)) in
    let there : splice (take end out ++ drop end out) end p ≡ take end out ++ splice (drop end out) 0 p
    = splice_right (take end out) (drop end out) end 0 p (rw (length-take-le end out h) (omega arith)) in
    rw (all, nothing, append-nil (splice (drop end out) 0 p), ← there, take-append-drop end out) refl

-- ---- the steps of the code

-- the beginning
pub first_left : (s book out : List ℕ) {book₁ out₁ : List ℕ} {w : Stepped}
    → w ≡ stepped (beginning s) → book₁ ≡ book_on (beginning s).onward book → out₁ ≡ splice out 0 (printed (beginning s))
    → so_far (record { next = w.next; number = 1; end = w.end }) book₁ out₁ ≡ first_gathered s book out
unfolding first_gathered
first_left s book out ew eb eo =
    let x = beginning s in
    let w = stepped x in
    let z : w.end ≡ 0 + w.end = omega arith in
    rw (ew, eb, eo)
    (ap (λ (n : ℕ). so_far (record { next = w.next; number = 1; end = n }) (book_on x.onward book) (splice out 0 (printed x))) z)

pub first_whole : (s book out : List ℕ) {book₁ out₁ : List ℕ} {w : Stepped}
    → w ≡ stepped (beginning s) → book₁ ≡ book_on (beginning s).onward book → out₁ ≡ splice out 0 (printed (beginning s))
    → whole_text s (so_far (record { next = w.next; number = 1; end = w.end }) book₁ out₁) ≡ text (replay s)
first_whole s book out ew eb eo =
    rw (ew, eb, eo, front out (printed (beginning s)), come_on (beginning s).onward (begin_valid s) 1 s book) (sym (text_begins s))

-- an item
module _ (s book out : List ℕ) (g : Gathered) (at : ℕ) (on : g.next ≡ Some at) (bytes : Bytes s) (is : is_book book ≡ true) (h : g.end ≤ length out) where
  -- the lent rest of the buffer, from `end` on, has the lines at its front
  pub item_left : {book₁ ys : List ℕ} {w : Stepped}
      → w ≡ stepped (step_at (book_in book) g.number s at)
      → book₁ ≡ book_on (step_at (book_in book) g.number s at).onward book
      → ys ≡ splice (take (length out - g.end) (drop g.end out)) 0 (printed (step_at (book_in book) g.number s at))
      → so_far (record { next = w.next; number = g.number + 1; end = g.end + w.end }) book₁ (take g.end out ++ (ys ++ drop (length out - g.end) (drop g.end out)))
      ≡ item_gathered s (so_far g book out)
  unfolding item_gathered
  item_left ew eb ey =
      rw (ew, eb, ey, on, put_behind out g.end (printed (step_at (book_in book) g.number s at)) h) refl

  pub item_whole : (part rest : List ℕ) {book₁ ys : List ℕ} {w : Stepped}
      → w ≡ stepped (step_at (book_in book) g.number s at)
      → book₁ ≡ book_on (step_at (book_in book) g.number s at).onward book
      → ys ≡ splice part 0 (printed (step_at (book_in book) g.number s at))
      → whole_text s (so_far (record { next = w.next; number = g.number + 1; end = g.end + w.end }) book₁ (take g.end out ++ (ys ++ rest)))
      ≡ whole_text s (so_far g book out)
  unfolding step_at
  item_whole part rest ew eb ey =
      let b : Book = book_in book in
      let x : Step = step_at b g.number s at in
      let v = item_valid b (book_is_image most_hours book_size book is).1 g.number bytes (found_at s at) in
      rw (ew, eb, ey, on, add-one g.number, behind out g.end (printed x) part rest h, come_on x.onward v (suc g.number) s book, text-step b g.number s at) (append_assoc (take g.end out) (printed x) (text (lines_on (suc g.number) s x.onward)))

-- ---- the loop: all that is gathered from where it stands is all that is gathered from the start

module _ (g : Gathered) (book out : List ℕ) where
  -- it goes round where there is an item to come and room for another step, and else it stops
  pub goes_round : {at : ℕ} → g.next ≡ Some at → g.end + step_room ≤ length out → takes_another (so_far g book out) ≡ true
  unfolding takes_another
  goes_round on room = rw (on, le-leb (g.end + step_room) (length out) room) refl

  pub stops_ended : g.next ≡ None → takes_another (so_far g book out) ≡ false
  unfolding takes_another
  stops_ended over = rw over refl

  pub stops_full : {at : ℕ} → g.next ≡ Some at → length out < g.end + step_room → takes_another (so_far g book out) ≡ false
  unfolding takes_another
  stops_full on full = rw (on, lt-leb (g.end + step_room) (length out) full) refl

one_more : (n : ℕ) (s : List ℕ) (p : Progress) → takes_another p ≡ true → items_gathered (suc n) s p ≡ items_gathered n s (item_gathered s p)
unfolding items_gathered
one_more n s p y = rw y refl

stays : (n : ℕ) (s : List ℕ) (p : Progress) → takes_another p ≡ false → items_gathered n s p ≡ p
unfolding items_gathered
stays zero s p y = refl
stays (suc n) s p y = rw y refl

-- one turn of it
pub all_turn : (s : List ℕ) (g : Gathered) (book out : List ℕ) {at : ℕ} → g.next ≡ Some at → g.end + step_room ≤ length out
    → g.number < length s + 2 → all_gathered s (item_gathered s (so_far g book out)) ≡ all_gathered s (so_far g book out)
unfolding all_gathered item_gathered
all_turn s g book out on room h =
    let n : length s + 2 - g.number ≡ suc (length s + 2 - (g.number + 1)) = omega arith in
    rw (n, one_more _ s (so_far g book out) (goes_round g book out on room), on) refl

-- its end
pub all_done : (s : List ℕ) (p : Progress) → takes_another p ≡ false → all_gathered s p ≡ p
unfolding all_gathered
all_done s p y = stays _ s p y

-- ---- the count: either no item was walked yet, or the number is higher

pub counts_on : (g r : Gathered) {n : ℕ} → (g.number < r.number) ⊎ (r ≡ g) → n ≡ r.number + 1 → g.number < n
counts_on g r w e = ⊎_elim (λ l. omega arith) (λ same. let f : r.number ≡ g.number = rw same in omega arith) w

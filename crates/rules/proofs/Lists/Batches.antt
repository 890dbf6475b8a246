-- An accepted undo gives back the book of its open, without its asks: while the batch is open only rows, guarantees and asks change, and the
-- part that was saved at the open stays as it is. So does an empty kept batch, and a list that has one in that place says the same.
use Rattle.std.specs.Prelude.{if◌then◌else◌, Option, None, Some}
use Prim.Native.Nat.{ℕ, ◌+◌, ◌-◌}
use mathlib.Core.Path.{◌≡◌, refl, sym, ap, ◌∙◌}
use mathlib.Core.Logic.{◌⊎◌, inl, inr}
use mathlib.Core.List.{List, [], ◌∷◌, ◌++◌, map}
use mathlib.Core.Bool.{true, false, or-false}
use native.Mathlib.Nat.{zero-add, add-zero, add_comm, add_assoc}
use native.Mathlib.Omega.{arith}
use lib.ListN.{length, length-append, length-map}
use borrow.Author.Tests.{not-true}
use Rattle.rules.specs.declared.Row.{Row}
use Rattle.rules.specs.declared.Request.{Request}
use Rattle.rules.specs.Basics.{total, every}
use Rattle.rules.specs.Verdicts.{accepted}
use Rattle.rules.specs.Books.{Part, Book, with_part, with_saved, with_asks, no_asks}
use Rattle.rules.specs.Requests.{Kind, register, confirm, withdraw, guarantee, open_batch, undo, keep, close_gate, schedule, settle, strip, ask, commit, first_of}
use Rattle.rules.specs.Registration.{proposed}
use Rattle.rules.specs.Calls.{Call, call_requests, call_kind, restored, confirmed_number, changed, next, given, ◌one_of◌, adding, checked_as, state_checks, step, apply, add_rows}
use Rattle.rules.specs.Lists.{after, accepts_as, rows_registered, ends_no_batch, UndoneBatch, EmptyKeptBatch, Matched, runs}
use Rattle.rules.proofs.Basics.Tests.{and_both, and_spared}
use Rattle.rules.proofs.Checks.Clearing.{Clear}
use Rattle.rules.proofs.Checks.Passed.{Passed, Kept, cleared_either, step_cases, passed_11, passed_12}
use Rattle.rules.proofs.Checks.KindTables.{same_kind}
use Rattle.rules.proofs.Rows.RowChanges.{length-mark}
use Rattle.rules.proofs.Lists.CallLists.{after_append, matched, kept_refused, passed_accepted, accepts_passed}

-- ---- kinds

-- a kind that is among one kind is that one
pub the_kind : (k j : Kind) → k one_of (j ∷ []) ≡ true → k ≡ j
the_kind k j h = same_kind k j (sym (or-false _) ∙ h)

-- an accepted call of that kind passed every check
pub passed_as : (b : Book) (c : Call) (k : Kind) → accepts_as step (k ∷ []) b c ≡ true → Passed b c × (call_kind c ≡ k)
passed_as b c k h = let w = (and_both _ _).0 h in (accepts_passed b c w.0, the_kind (call_kind c) k w.1)

-- ---- while a batch is open

-- a book b in the batch that was opened at o, in phase 1, since when n rows were registered: o with another part and other asks, and its own
-- part saved
record Within (o : Book) (n : ℕ) (b : Book) : Type 0 where
  part : Part
  asks : List (Option Row)
  book : b ≡ with_asks (with_saved (with_part o part) (Some o.part)) asks
  phase : o.phase ≡ 1
  numbers : length part.rows ≡ n + length o.part.rows

-- the rows that an accepted call of a kind registers
abbrev registers : Kind → List Request → ℕ
registers k qs = if k one_of adding then length qs else 0

module _ {o b : Book} {n : ℕ} (w : Within o n b) (qs : List Request) where
  here : b.part ≡ w.part
  here = ap (λ (x : Book). x.part) w.book

  phase_within : b.phase ≡ 1
  phase_within = ap (λ (x : Book). x.phase) w.book ∙ w.phase

  -- another part, with so many rows more
  with_part_lem : (m : ℕ) (p : Part) → length p.rows ≡ m + length b.part.rows → Within o (m + n) (with_part b p)
  with_part_lem m p e =
      record {
        part = p;
        asks = w.asks;
        book = ap (λ (x : Book). with_part x p) w.book;
        phase = w.phase;
        numbers = omega (arith, e, ap (λ (x : Part). length x.rows) here, w.numbers);
      }

  -- other asks
  with_asks_lem : (asks : List (Option Row)) → Within o n (with_asks b asks)
  with_asks_lem asks =
      record { part = w.part; asks = asks; book = ap (λ (x : Book). with_asks x asks) w.book; phase = w.phase; numbers = w.numbers }

  -- a batch is open
  saved_never : b.saved ≡ None → ⊥
  saved_never e = let s = ap (λ (x : Book). x.saved) w.book in let z : ◌≡◌ {A = ℕ} 0 1 = cc in omega arith

  rows_more : Within o (length qs + n) (apply (add_rows (map proposed qs)) b)
  unfolding apply
  rows_more = with_part_lem (length qs) _ (length-append b.part.rows _ ∙ omega (arith, length-map qs proposed))

  within_change : (k : Kind) → k one_of (undo ∷ keep ∷ []) ≡ false → Clear (state_checks b (checked_as k) qs)
      → Within o (registers k qs + n) (changed k b qs)
  unfolding apply
  within_change register e h = rows_more
  within_change strip e h = rows_more
  within_change commit e h = rows_more
  within_change ask e h = rw zero-add (with_asks_lem _)
  within_change confirm e h = with_part_lem 0 _ (length-mark (confirmed_number b (first_of qs)) 2 b.part.rows ∙ sym (zero-add _))
  within_change withdraw e h = with_part_lem 0 _ (length-mark (first_of qs).number 3 b.part.rows ∙ sym (zero-add _))
  within_change guarantee e h = with_part_lem 0 _ (sym (zero-add _))
  within_change open_batch e h = absurd (saved_never (passed_12 b qs open_batch refl h))
  within_change undo e h = let z : ◌≡◌ {A = ℕ} 0 1 = cc in absurd (omega arith)
  within_change keep e h = let z : ◌≡◌ {A = ℕ} 0 1 = cc in absurd (omega arith)
  within_change close_gate e h = absurd (saved_never (passed_12 b qs close_gate refl h))
  within_change schedule e h = absurd (omega (arith, passed_11 b qs schedule h, phase_within))
  within_change settle e h = absurd (omega (arith, passed_11 b qs settle h, phase_within))

within-next : {o b : Book} {n : ℕ} (w : Within o n b) (qs : List Request) (k : Kind) → k one_of (undo ∷ keep ∷ []) ≡ false
    → Clear (state_checks b (checked_as k) qs) → Within o (registers k qs + n) (next k b qs)
within-next {o} {b} {n} w qs k e h =
    let x = within_change w qs k e h in
    cleared_either (Within o (registers k qs + n)) k (changed k b qs) x (with_asks_lem x qs no_asks)

-- the rows that one call registers
abbrev rows_of : Book → Call → ℕ
rows_of b c = if accepts_as step adding b c then length (call_requests c) else 0

within_go : {o : Book} {n : ℕ} (b : Book) (c : Call) → accepts_as step (undo ∷ keep ∷ []) b c ≡ false → Within o n b → Kept b c ⊎ Passed b c
    → Within o (rows_of b c + n) (step b c).book
within_go b c e w (inl kept) = rw (kept_refused kept, kept.book, zero-add) w
within_go b c e w (inr p) =
    rw (passed_accepted p, p.book) (within-next w (call_requests c) (call_kind c) (and_spared _ _ (passed_accepted p) e) p.state)

within_after : {o : Book} {n : ℕ} (b : Book) (cs : List Call) → ends_no_batch step b cs ≡ true → Within o n b
    → Within o (rows_registered step b cs + n) (after step b cs)
unfolding ends_no_batch after rows_registered runs every total
within_after b [] e w = rw zero-add w
within_after {n} b (c ∷ cs) e w =
    let t = (and_both _ _).0 e in
    rw (add_comm (rows_of b c), add_assoc) (within_after {n = rows_of b c + n} (step b c).book cs t.1 (within_go b c (not-true _ t.0) w (step_cases b c)))

within_open : (b : Book) (qs : List Request) → b.phase ≡ 1 → Within b 0 (next open_batch b qs)
unfolding apply
within_open b qs e = record { part = b.part; asks = no_asks; book = refl; phase = e; numbers = omega arith }

-- ---- an open that was accepted

module _ (b : Book) (opening : Call) (opens : accepts_as step (open_batch ∷ []) b opening ≡ true) where
  opened_batch : Passed b opening × (call_kind opening ≡ open_batch)
  opened_batch = passed_as b opening open_batch opens

  step_open : (step b opening).book ≡ next open_batch b (call_requests opening)
  step_open = opened_batch.0.book ∙ ap (λ (k : Kind). next k b (call_requests opening)) opened_batch.1

  open_state : Clear (state_checks b open_batch (call_requests opening))
  open_state = rw opened_batch.1 at opened_batch.0.state

  phase_open : b.phase ≡ 1
  phase_open = passed_11 b (call_requests opening) open_batch open_state

  saved_none : b.saved ≡ None
  saved_none = passed_12 b (call_requests opening) open_batch refl open_state

  -- where it was kept at once, only the asks are gone
  pub keep_clears : (keeping : Call) → accepts_as step (keep ∷ []) (after step b (opening ∷ [])) keeping ≡ true
      → after step b (opening ∷ keeping ∷ []) ≡ with_asks b no_asks
  unfolding after apply
  keep_clears keeping keeps =
      let w = passed_as (after step b (opening ∷ [])) keeping keep keeps in
      w.0.book
      ∙ ap (λ (k : Kind). next k (step b opening).book (call_requests keeping)) w.1
      ∙ ap (λ (x : Book). next keep x (call_requests keeping)) step_open
      ∙ ap (λ (saved : Option Part). with_asks (with_saved b saved) no_asks) (sym saved_none)

-- ---- an undone batch

module _ (b : Book) (opening : Call) (between : List Call) (undoing : Call) (batch : UndoneBatch step b opening between undoing) where
  undone_batch : Passed (after step b (opening ∷ between)) undoing × (call_kind undoing ≡ undo)
  undone_batch = passed_as (after step b (opening ∷ between)) undoing undo batch.undoes

  within_batch : Within b (rows_registered step (after step b (opening ∷ [])) between) (after step b (opening ∷ between))
  unfolding after
  within_batch =
      let start : Within b 0 (step b opening).book
      = rw (step_open b opening batch.opens) (within_open b (call_requests opening) (phase_open b opening batch.opens)) in
      rw add-zero at (within_after (step b opening).book between batch.goes_on start)

  undo_within : (m : ℕ) (x : Book) (qs : List Request) → Within b m x → next undo x qs ≡ with_asks b no_asks
  unfolding apply
  undo_within m x qs w =
      ap (λ (y : Book). next undo y qs) w.book
      ∙ ap (λ (saved : Option Part). with_asks (with_saved b saved) no_asks) (sym (saved_none b opening batch.opens))

  -- undo gives back the book as it was before the open, but for its asks, whatever was called in between
  pub undo_restores : after step b (opening ∷ between ++ undoing ∷ []) ≡ with_asks b no_asks
  unfolding after
  undo_restores =
      after_append step b (opening ∷ between) (undoing ∷ [])
      ∙ undone_batch.0.book
      ∙ ap (λ (k : Kind). next k (after step b (opening ∷ between)) (call_requests undoing)) undone_batch.1
      ∙ undo_within _ _ (call_requests undoing) within_batch

  -- and gives the number of rows registered since
  pub undo_counts : (step (after step b (opening ∷ between)) undoing).outcome ≡ accepted (rows_registered step (after step b (opening ∷ [])) between)
  unfolding given
  undo_counts =
      let x = after step b (opening ∷ between) in
      let saved : restored x.saved x.part ≡ b.part = ap (λ (y : Book). restored y.saved y.part) within_batch.book in
      let count : length x.part.rows - length (restored x.saved x.part).rows ≡ rows_registered step (after step b (opening ∷ [])) between
      = rw saved (omega (arith, ap (λ (y : Book). length y.part.rows) within_batch.book, within_batch.numbers)) in
      undone_batch.0.outcome
      ∙ ap (λ (k : Kind). accepted (given k x (call_requests undoing))) undone_batch.1
      ∙ ap accepted count

  -- as an empty kept batch does
  pub like_an_empty_batch : (other keeping : Call) → EmptyKeptBatch step b other keeping
      → after step b (opening ∷ between ++ undoing ∷ []) ≡ after step b (other ∷ keeping ∷ [])
  like_an_empty_batch other keeping empty = undo_restores ∙ sym (keep_clears b other empty.opens keeping empty.keeps)

-- an undone batch matched with an empty kept one in its place, whatever stands before and after it
pub undone_batch_matched : (b : Book) (before : List Call) (opening : Call) (between : List Call) (undoing other keeping : Call)
    (rest : List Call) → UndoneBatch step (after step b before) opening between undoing → EmptyKeptBatch step (after step b before) other keeping
    → Matched step b before (opening ∷ between ++ undoing ∷ []) (other ∷ keeping ∷ []) rest
undone_batch_matched b before opening between undoing other keeping rest batch empty =
    matched step b before (opening ∷ between ++ undoing ∷ []) (other ∷ keeping ∷ []) rest
    (like_an_empty_batch (after step b before) opening between undoing batch other keeping empty)

-- The answer to an item prints its lines: an accepted call settles where the item's third byte is 10, and then what it worked out stands
-- in the two buffers, as many results as schedules and as many balances as operators.
use Rattle.std.specs.Prelude.{Option, None, Some, is_ok}
use Prim.Native.Nat.{ℕ, ◌≤◌, ◌<◌}
use mathlib.Core.Path.{◌≡◌, refl, sym, ap, ◌∙◌}
use mathlib.Core.List.{List, [], ◌∷◌, append-nil}
use mathlib.Core.Bool.{Bool, true, false, ◌&&◌, or-false}
use native.Mathlib.Omega.{arith}
use lib.ListN.{length, get_or, length-map}
use lib.Seq.{get_or-take, length-take-le}
use lib.Dec.{eqb}
use Rattle.wire.proofs.NumberLaws.{number_at_one}
use Rattle.rules.specs.declared.Refusal.{Refusal}
use Rattle.rules.specs.Basics.{Each, up_to}
use Rattle.rules.specs.Verdicts.{Numbers, numbers, Verdict}
use Rattle.rules.specs.Books.{Book, operator_count}
use Rattle.rules.specs.Requests.{Kind, settle, kind_number}
use Rattle.rules.specs.Settlement.{results, figures_in}
use Rattle.rules.specs.Calls.{Call, call_kind, settles, refusal, answer, results_after, ◌one_of◌, step, worked_out, settlement}
use Rattle.rules.specs.Lists.{accepts, accepts_as}
use Rattle.rules.specs.Replay.{call_of, answered, answer_lines, settled_lines, line_text, text}
use Rattle.rules.proofs.Basics.Searches.{each_map, counting-length}
use Rattle.rules.proofs.Checks.Passed.{Passed, bytes_kind, readable}
use Rattle.rules.proofs.Lists.CallLists.{accepts_passed}
use Rattle.records.proofs.ReadingLaws.{kind_third}
use Rattle.items.specs.Stream.{record_length}
use Rattle.items.specs.declared.LineBuffer.{LineBuffer}
use Rattle.items.specs.Puts.{Puts}
use Rattle.items.specs.Figures.{SmallFigure, settled_text}
use Rattle.items.proofs.StreamLaws.{record_bytes, record_within}
use Rattle.items.proofs.PutsLaws.{puts_then}
use Rattle.items.proofs.SettledLaws.{SmallBalances, settled_text_lem, settled_small}
use Rattle.image.specs.Valid.{valid}
use Rattle.day.proofs.SettleLaws.{worked, balances_many, settle_writes, balances_small}
use Rattle.replaying.specs.Lent.{answer_text}

-- ---- which items settle

module _ (b : Book) (item : List ℕ) where
  -- the kind that a call passed with is the item's third byte
  third_byte : Passed b (call_of item) → kind_number (call_kind (call_of item)) ≡ get_or item 2 0
  third_byte p =
      let s : List ℕ = (call_of item).bytes in
      let (read, kind) = bytes_kind s p.read in
      let r = readable s read in
      let n = length-take-le (record_length item) item (record_within item) in
      let l : 2 < record_length item = omega (arith, ap length (record_bytes item)) in
      kind
      ∙ kind_third s read
      ∙ number_at_one s 2
      ∙ ap (λ (x : List ℕ). get_or x 2 0) (sym (record_bytes item))
      ∙ get_or-take (record_length item) item 2 0 l

  settles_go : (t : Bool) → accepts step b (call_of item) ≡ t → (t && call_kind (call_of item) one_of (settle ∷ [])) ≡ (t && eqb (get_or item 2 0) 10)
  settles_go true e = rw (third_byte (accepts_passed b (call_of item) e)) (or-false (eqb (get_or item 2 0) 10))
  settles_go false e = refl

  -- an item settles where it is accepted and its third byte is 10
  pub settles_by_third : accepts_as step (settle ∷ []) b (call_of item) ≡ (accepts step b (call_of item) && eqb (get_or item 2 0) 10)
  settles_by_third = settles_go (accepts step b (call_of item)) refl

-- ---- what settle worked out, and the buffers

module _ (b : Book) (c : Call) where
  others : (k : Kind) → k one_of (settle ∷ []) ≡ false → settles k b c ≡ None
  unfolding settles
  others k h = rw h

  unsettled_go : (o : Option Refusal) → (is_ok (answer b c o).outcome && call_kind c one_of (settle ∷ [])) ≡ false
      → worked_out b c o ≡ None
  unfolding answer worked_out
  unsettled_go (Some r) h = refl
  unsettled_go None h = others (call_kind c) h

  -- a call that is no accepted settle works out nothing
  unsettled : accepts_as step (settle ∷ []) b c ≡ false → settlement b c ≡ None
  unfolding step settlement
  unsettled h = unsettled_go (refusal b c) h

  results_go : (o : Option Refusal) → (answer b c o).results ≡ results_after (worked_out b c o) c.results
  unfolding answer worked_out
  results_go (Some r) = refl
  results_go None = refl

  results_by : (step b c).results ≡ results_after (settlement b c) c.results
  unfolding step settlement
  results_by = results_go (refusal b c)

  results_many : length (worked b c).results ≡ length b.schedules
  unfolding results
  results_many = length-map (up_to (length b.schedules)) _ ∙ counting-length (length b.schedules) 1

  module _ (v : valid b ≡ true) (h : accepts_as step (settle ∷ []) b c ≡ true) where
    small : SmallBalances (worked b c).balances
    small = each_map (λ z m. omega arith) (balances_small b c h v)

    -- the figures in the buffer of an accepted settle are small
    figures_small : Each SmallFigure (figures_in (operator_count b.setup) (step b c).balances)
    figures_small = rw (← balances_many b c, (settle_writes b c h).1) (settled_small (worked b c) c.balances small)

    -- and the two buffers print its lines
    settled_prints : settled_text (length b.schedules) (step b c).results (operator_count b.setup) (step b c).balances
        ≡ text (settled_lines (settlement b c))
    settled_prints =
        rw (← balances_many b c, ← results_many, results_by, (settle_writes b c h).0, (settle_writes b c h).1) (settled_text_lem (worked b c) c.results c.balances small)

-- ---- the text of an answer, piece by piece

module _ (number : ℕ) (o : Verdict) (v : Numbers) (t : Bool) (n : ℕ) (rs : List ℕ) (m : ℕ) (bs : List ℕ) {lines lines₁ : LineBuffer} where
  pub put_plain : t ≡ false → v ≡ numbers o → Puts lines (line_text (answered number v)) lines₁ → Puts lines (answer_text number o t n rs m bs) lines₁
  unfolding answer_text
  put_plain e f p = rw (e, ← f) p

  pub put_settling : {lines₂ : LineBuffer} → t ≡ true → v ≡ numbers o → lines.end ≤ length lines.out.now
      → Puts lines (line_text (answered number v)) lines₁ → Puts lines₁ (settled_text n rs m bs) lines₂
      → Puts lines (answer_text number o t n rs m bs) lines₂
  unfolding answer_text
  put_settling e f room p q = rw (e, ← f) (puts_then room p q)

-- ---- an item

module _ (b : Book) (v : valid b ≡ true) (item : List ℕ) where
  prints_go : (number : ℕ) (t : Bool) → accepts_as step (settle ∷ []) b (call_of item) ≡ t
      → answer_text number (step b (call_of item)).outcome t (length b.schedules) (step b (call_of item)).results (operator_count b.setup) (step b (call_of item)).balances
      ≡ text (answer_lines number b (call_of item))
  unfolding answer_text answer_lines text
  prints_go number true e = rw (settled_prints b (call_of item) v e)
  prints_go number false e = rw (unsettled b (call_of item) e) (sym (append-nil _))

  module _ {o : Verdict} {t : Bool} (outcome : o ≡ (step b (call_of item)).outcome) (flag : t ≡ (is_ok o && eqb (get_or item 2 0) 10)) where
    -- the test of the code is whether the item settles
    flagged : accepts_as step (settle ∷ []) b (call_of item) ≡ t
    flagged = settles_by_third b item ∙ sym (flag ∙ rw outcome)

    -- what the code prints is the answer's lines
    pub answer_prints : (number n m : ℕ) {rs bs : List ℕ} → n ≡ length b.schedules → m ≡ operator_count b.setup
        → rs ≡ (step b (call_of item)).results → bs ≡ (step b (call_of item)).balances
        → answer_text number o t n rs m bs ≡ text (answer_lines number b (call_of item))
    answer_prints number n m en em er eb = rw (en, em, er, eb, outcome) (prints_go number t flagged)

    -- where it settles the figures are small, as the code asks
    pub answer_small : (m : ℕ) {bs : List ℕ} → m ≡ operator_count b.setup → bs ≡ (step b (call_of item)).balances → t ≡ true
        → Each SmallFigure (figures_in m bs)
    answer_small m em eb e = rw (em, eb) (figures_small b (call_of item) v (flagged ∙ e))

-- Lines put one after the other: what stands in the buffer so far and the text that is left are together the whole text.
use Prim.Native.Nat.{ℕ, zero, suc, ◌+◌, ◌*◌, ◌≤◌, ◌<◌}
use mathlib.Core.Path.{◌≡◌, refl, sym, ◌∙◌}
use mathlib.Core.List.{List, [], ◌∷◌}
use native.Mathlib.Numerals.{add-one}
use native.Mathlib.Omega.{arith}
use native.Mathlib.Nat.{add-zero}
use lib.ListN.{length, get_or, take, drop, length-append}
use lib.Seq.{drop-cons}
use lib.IntN.{ℤ}
use Rattle.wire.specs.Numbers.{figure_in}
use Rattle.wire.specs.Regions.{splice}
use Rattle.wire.proofs.RegionLaws.{splice-append, splice_none}
use Rattle.rules.specs.Basics.{sum_of}
use Rattle.rules.specs.Settlement.{figures_in}
use Rattle.rules.specs.Replay.{Line, numbered, result, balance, sum, line_text, text}
use Rattle.items.specs.declared.LineBuffer.{LineBuffer}
use Rattle.items.specs.Written.{line_room}
use Rattle.items.specs.Puts.{Puts}
use Rattle.items.specs.Figures.{results_text, balance_lines_text, balances_text}
use Rattle.items.proofs.PutsLaws.{puts_then}
use Rattle.items.proofs.FigureLaws.{figures_step, figures_none}

-- ---- the text that is left

-- the whole text goes behind the lines of `before`; so far the buffer is `now`, and the lines that are left go behind those, with room for each
pub record Underway (before : LineBuffer) (whole : List ℕ) (now : LineBuffer) (lines : List Line) (left : ℕ) (end : ℕ) : Type 0 where
  pub put : splice now.out.now now.end (text lines) ≡ splice before.out.now before.end whole
  pub behind : now.end + length (text lines) ≡ before.end + length whole
  pub same_buffer : now.out.ghost_name ≡ before.out.ghost_name
  pub same_length : length now.out.now ≡ length before.out.now
  pub room : now.end + line_room * left ≤ end

module _ {before : LineBuffer} {whole : List ℕ} {end : ℕ} where
  pub underway_start : (lines : List Line) (left : ℕ) → text lines ≡ whole → before.end + line_room * left ≤ end
      → Underway before whole before lines left end
  underway_start lines left e h = record { put = rw e; behind = rw e; same_buffer = refl; same_length = refl; room = h }

  pub underway_line : {now next : LineBuffer} {lines : List Line} {left : ℕ} (l : Line) (ls : List Line) (m : ℕ)
      → Underway before whole now lines left end → lines ≡ l ∷ ls → left ≡ m + 1 → now.end ≤ length now.out.now
      → Puts now (line_text l) next → next.end ≤ now.end + line_room → Underway before whole next ls m end
  unfolding text
  underway_line {now} {next} l ls m u e c fits p short =
      let w = p.written in
      let joined : length (text (l ∷ ls)) ≡ length (line_text l) + length (text ls) = length-append (line_text l) (text ls) in
      record {
        put = rw (w.put, w.behind) (splice-append now.out.now now.end (line_text l) (text ls) fits ∙ (rw e at u.put));
        behind = omega (arith, w.behind, rw e at u.behind);
        same_buffer = p.same_buffer ∙ u.same_buffer;
        same_length = p.same_length ∙ u.same_length;
        room = omega (arith, u.room);
      }

  pub underway_done : {now : LineBuffer} {lines : List Line} {left : ℕ} → Underway before whole now lines left end → lines ≡ []
      → Puts before whole now
  unfolding text
  underway_done {now} u e =
      record {
        written = record { put = sym (splice_none now.out.now now.end) ∙ (rw e at u.put); behind = sym (add-zero now.end) ∙ (rw e at u.behind) };
        same_buffer = u.same_buffer;
        same_length = u.same_length;
      }

-- ---- the lines that are left

-- the lines of the results from k on, of which `left` are left
abbrev pub results_left : List ℕ → ℕ → ℕ → List Line
results_left results k left = numbered result (k + 1) (take left (drop k results))

pub results_whole : (results : List ℕ) (n : ℕ) → text (results_left results 0 n) ≡ results_text n results
unfolding results_text
results_whole results n = refl

pub results_next : (results : List ℕ) (k left m : ℕ) → k < length results → left ≡ m + 1
    → results_left results k left ≡ result (k + 1) (get_or results k 0) ∷ results_left results (k + 1) m
unfolding numbered
results_next results k left m h e = rw (e, add-one m, drop-cons results k 0 h, add-one (k + 1), add-one k)

pub results_none : (results : List ℕ) (k left : ℕ) → left ≤ 0 → results_left results k left ≡ []
unfolding numbered
results_none results k zero h = refl
results_none results k (suc n) h = absurd (omega arith)

-- the lines of the balances from k on, of which `left` are left
abbrev pub balances_left : List ℕ → ℕ → ℕ → List Line
balances_left balances k left = numbered balance (k + 1) (figures_in left (drop (8 * k) balances))

pub balances_whole : (balances : List ℕ) (n : ℕ) → text (balances_left balances 0 n) ≡ balance_lines_text (figures_in n balances)
unfolding balance_lines_text
balances_whole balances n = refl

pub balances_next : (balances : List ℕ) (k left m : ℕ) → left ≡ m + 1
    → balances_left balances k left ≡ balance (k + 1) (figure_in (take 8 (drop (8 * k) balances))) ∷ balances_left balances (k + 1) m
unfolding numbered
balances_next balances k left m e = rw (figures_step balances k left m e, add-one (k + 1))

pub balances_none : (balances : List ℕ) (k left : ℕ) → left ≤ 0 → balances_left balances k left ≡ []
unfolding numbered
balances_none balances k left h = rw (figures_none (drop (8 * k) balances) left h)

-- the lines of the balances, and then their sum
pub balances_put : {s s₁ s₂ : LineBuffer} (z : ℤ) (balances : List ℕ) (n : ℕ) → s.end ≤ length s.out.now
    → Puts s (balance_lines_text (figures_in n balances)) s₁ → Puts s₁ (line_text (sum z)) s₂
    → z ≡ sum_of (figures_in n balances) → Puts s (balances_text n balances) s₂
unfolding balances_text
balances_put z balances n h p q e = puts_then h p (rw e at q)

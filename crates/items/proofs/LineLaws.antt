-- Each line is the pieces that the code puts, one behind the other.
use Prim.Native.Nat.{ℕ, ◌≤◌}
use mathlib.Core.List.{List, ◌++◌, append_assoc}
use lib.IntN.{ℤ}
use lib.ListN.{length}
use Rattle.rules.specs.Ascii.{ascii}
use Rattle.rules.specs.Replay.{decimal, signed_decimal, space, newline, line_text, answered, result, balance, sum, cut}
use Rattle.items.specs.declared.LineBuffer.{LineBuffer}
use Rattle.items.specs.Puts.{Puts}
use Rattle.items.proofs.PutsLaws.{puts_as, puts_then}

-- a number, and a space or a newline behind it
abbrev spaced : ℕ → List ℕ
spaced n = decimal n ++ space

abbrev ended : ℕ → List ℕ
ended n = decimal n ++ newline

abbrev ended_figure : ℤ → List ℕ
ended_figure v = signed_decimal v ++ newline

module _ {s s₁ s₂ : LineBuffer} (room : s.end ≤ length s.out.now) where
  pub sum_put : (v : ℤ) → Puts s (ascii "t ") s₁ → Puts s₁ (ended_figure v) s₂
      → Puts s (line_text (sum v)) s₂
  unfolding line_text
  sum_put v a b = puts_then room a b

  pub cut_put : (item : ℕ) → Puts s (ascii "cut ") s₁ → Puts s₁ (ended item) s₂
      → Puts s (line_text (cut item)) s₂
  unfolding line_text
  cut_put item a b = puts_then room a b

  pub result_put : {s₃ : LineBuffer} (place r : ℕ) → Puts s (ascii "s ") s₁ → Puts s₁ (spaced place) s₂
      → Puts s₂ (ended r) s₃ → Puts s (line_text (result place r)) s₃
  unfolding line_text
  result_put place r a b c = puts_as _ (simp append_assoc) (puts_then room (puts_then room a b) c)

  pub balance_put : {s₃ : LineBuffer} (operator : ℕ) (v : ℤ) → Puts s (ascii "o ") s₁
      → Puts s₁ (spaced operator) s₂ → Puts s₂ (ended_figure v) s₃ → Puts s (line_text (balance operator v)) s₃
  unfolding line_text
  balance_put operator v a b c = puts_as _ (simp append_assoc) (puts_then room (puts_then room a b) c)

  pub answered_put : {s₃ s₄ : LineBuffer} (item verdict first second : ℕ) → Puts s (spaced item) s₁
      → Puts s₁ (spaced verdict) s₂ → Puts s₂ (spaced first) s₃ → Puts s₃ (ended second) s₄
      → Puts s (line_text (answered item (verdict, first, second))) s₄
  unfolding line_text
  answered_put item verdict first second a b c d = puts_as _ (simp append_assoc) (puts_then room (puts_then room (puts_then room a b) c) d)

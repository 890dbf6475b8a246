-- Texts put one behind the other are one text.
use Prim.Native.Nat.{ℕ, ◌≤◌}
use mathlib.Core.Path.{◌≡◌, ◌∙◌}
use mathlib.Core.List.{List, ◌++◌}
use lib.ListN.{length}
use Rattle.items.specs.declared.LineBuffer.{LineBuffer}
use Rattle.items.specs.Puts.{Puts}
use Rattle.items.proofs.WrittenLaws.{written_as, written_then}

module _ {before after : LineBuffer} {x : List ℕ} where
  -- the same text by another name
  pub puts_as : (y : List ℕ) → x ≡ y → Puts before x after → Puts before y after
  puts_as y e p = record { written = written_as y e p.written; same_buffer = p.same_buffer; same_length = p.same_length }

  pub puts_then : {y : List ℕ} {last : LineBuffer} → before.end ≤ length before.out.now → Puts before x after → Puts after y last → Puts before (x ++ y) last
  puts_then h p q =
      record { written = written_then h p.written q.written; same_buffer = q.same_buffer ∙ p.same_buffer; same_length = q.same_length ∙ p.same_length }

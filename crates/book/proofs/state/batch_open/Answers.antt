-- The bytes are the book's image, in which the flag is 1 while a batch is open.
use Prim.Native.Nat.{ℕ}
use mathlib.Core.Path.{ap, ◌∙◌}
use native.Mathlib.Omega.{arith}
use lib.Dec.{eqb}
use Rattle.book.proofs.StateLaws.{book_length, flag_stands}
use Rattle.book.proofs.state.batch_open.Goals as goal

pub get-requires : goal.get-requires
get-requires c = omega (arith, book_length _ c.requires)

pub returns : goal.returns
returns c = ap (λ (n : ℕ). eqb n 1) c.get.ensures ∙ flag_stands _ c.requires

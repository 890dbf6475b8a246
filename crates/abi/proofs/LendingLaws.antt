-- The ways out of a lent buffer, and the figure of a position read back.
use Prim.Native.Nat.{ℕ, zero, suc, ◌^◌, ◌≤◌, ◌<◌}
use mathlib.Core.Path.{◌≡◌, refl, ◌∙◌}
use mathlib.Core.List.{List}
use native.Mathlib.Nat.{zero-add}
use lib.ListN.{length}
use lib.IntN.{pos, nat_abs, neg_ℤ}
use borrow.Author.Tests.{lt-ltb, le-ltb}
use Rattle.wire.specs.Numbers.{signed, figure_in}
use Rattle.wire.specs.Regions.{splice}
use Rattle.wire.proofs.NumberLaws.{figure_back}
use Rattle.wire.proofs.RegionLaws.{splice_take_drop}
use Rattle.rules.specs.declared.Position.{Position}
use Rattle.rules.specs.declared.Position.TheVariants.{Long, Short}
use Rattle.rules.specs.declared.Refusal.TheVariants.{BufferShort}
use Rattle.rules.specs.Verdicts.{accepted, refused, first_to_apply}
use Rattle.rules.specs.Readings.{position_figure}
use Rattle.abi.specs.Lending.{lent_refusal, lent_outcome, lent_bytes}

-- ---- a lent buffer

module _ (said buffer : List ℕ) where
  pub no_room : length buffer < length said → (refused BufferShort ≡ lent_outcome said buffer) × (buffer ≡ lent_bytes said buffer)
  unfolding lent_outcome lent_bytes lent_refusal first_to_apply
  no_room h = let t = lt-ltb (length buffer) (length said) h in (rw t, rw t)

  pub room : length said ≤ length buffer → (accepted 0 ≡ lent_outcome said buffer) × (splice buffer 0 said ≡ lent_bytes said buffer)
  unfolding lent_outcome lent_bytes lent_refusal first_to_apply
  room h =
      let t = le-ltb (length buffer) (length said) h in
      (rw t, splice_take_drop buffer 0 said ∙ rw (t, zero-add (length said)))

-- ---- the figure of a position reads back

minus_as_far : (n : ℕ) → nat_abs (neg_ℤ (pos n)) ≡ n
minus_as_far zero = refl
minus_as_far (suc n) = refl

abbrev pub energy_of : Position → ℕ
energy_of (Long x) = x.0
energy_of (Short x) = x.0

pub position_back : (p : Position) → energy_of p < 2 ^ 63 → figure_in (signed 8 (position_figure p)) ≡ position_figure p
position_back (Long x) h = figure_back (pos x.0) h
position_back (Short x) h = figure_back (neg_ℤ (pos x.0)) (rw (minus_as_far x.0) h)

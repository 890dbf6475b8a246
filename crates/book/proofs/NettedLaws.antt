-- A net position from its 4 bytes: within the margins it is nearer to zero than 2^31.
use Prim.Native.Nat.{ℕ, ◌+◌, ◌-◌, ◌^◌, ◌≤◌, ◌<◌}
use mathlib.Core.Path.{◌≡◌}
use mathlib.Core.List.{List}
use mathlib.Core.Bool.{true}
use native.Mathlib.Omega.{arith}
use Rattle.wire.specs.Numbers.{number_at}
use Rattle.units.specs.Units.{kwh}
use Rattle.rules.specs.declared.Net.{Net}
use Rattle.rules.specs.Limits.{most_hours}
use Rattle.rules.specs.Registration.{net_of}
use Rattle.image.specs.Layout.{present_offset, net_offset, net_width}
use Rattle.image.specs.Valid.{is_sound, book_in}
use Rattle.book.specs.Members.{IsAccount, IsHour}
use Rattle.book.specs.Netted.{netted}
use Rattle.book.proofs.ReadingLaws.{net_near, net_stored_lem}

-- ---- from its bytes

-- two of the same sums are one
net_same : (b s c d : ℕ) → b ≡ c → s ≡ d → ◌≡◌ {A = Net} (record { bought = kwh b; sold = kwh s }) (record { bought = kwh c; sold = kwh d })
net_same b s c d e f = rw (e, f)

module _ (s : List ℕ) (k : is_sound s ≡ true) (a h : ℕ) (i : IsAccount (book_in s) a) (j : IsHour (book_in s) h)
    (v : ℕ) (q : v ≡ number_at s (present_offset + net_offset most_hours a h) net_width) where
  -- below 2^31 they say what was bought beyond what was sold
  pub net_bought : v < 2 ^ 31 → record { bought = kwh v; sold = kwh 0 } ≡ netted (net_of (book_in s).part.rows a h)
  unfolding netted
  net_bought l =
      let near = net_near s k a h i j in
      let e = net_stored_lem s k a h i j v q in
      net_same v 0 _ _ (omega arith) (omega arith)

  -- and from there on what was sold beyond what was bought
  pub net_sold : 2 ^ 31 ≤ v → (w : ℕ) → w ≡ 2 ^ 32 - v → record { bought = kwh 0; sold = kwh w } ≡ netted (net_of (book_in s).part.rows a h)
  unfolding netted
  net_sold l w d =
      let near = net_near s k a h i j in
      let e = net_stored_lem s k a h i j v q in
      net_same 0 w _ _ (omega arith) (omega arith)

-- ---- against its sums

-- a net position by itself is no more than its two sums, and has their difference
pub netted_most : (n : Net) (most : ℕ) → (n.bought.0 ≤ most) × (n.sold.0 ≤ most) → ((netted n).bought.0 ≤ most) × ((netted n).sold.0 ≤ most)
unfolding netted
netted_most n most h = (omega (arith, h.0), omega (arith, h.1))

pub netted_difference : (n : Net) → (netted n).bought.0 + n.sold.0 ≡ n.bought.0 + (netted n).sold.0
unfolding netted
netted_difference n = omega arith

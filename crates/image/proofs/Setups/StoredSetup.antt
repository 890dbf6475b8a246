-- A set-up and its bytes, there and back: each value in range fits its bytes, and the entries stand side by side, read by their counts.
use Rattle.std.specs.Prelude.{if◌then◌else◌}
use Prim.Native.Nat.{ℕ, zero, suc, ◌+◌, ◌*◌, ◌≤◌}
use mathlib.Core.Path.{◌≡◌, refl, ap, ◌∙◌}
use mathlib.Core.List.{List, [], ◌∷◌, ◌++◌, append_assoc, append-nil}
use mathlib.Core.Bool.{Bool, true, false}
use native.Mathlib.Omega.{arith}
use lib.ListN.{length, get_or, take, drop, replicate, length-replicate, length-drop}
use lib.Seq.{take_all, take-add, length-take-le, drop-append-add}
use lib.Dec.{eqb}
use Rattle.wire.specs.Numbers.{number_at, le, Bytes}
use Rattle.wire.specs.Parts.{flat, start_of, Wide, pack, Small, padded}
use Rattle.wire.proofs.NumberLaws.{length-le, number-le, le_number_wide, bytes_take, bytes_drop}
use Rattle.wire.proofs.PartLaws.{number_part, number_inner}
use Rattle.wire.proofs.PackLaws.{length-pack, number_in_pack, pack-numbers}
use Rattle.units.specs.declared.Kwh.{Kwh}
use Rattle.units.specs.declared.Cents.{Cents}
use Rattle.units.specs.declared.CentsPerMwh.{CentsPerMwh}
use Rattle.units.specs.Units.{cents}
use Rattle.rules.specs.declared.Counts.{Counts}
use Rattle.rules.specs.declared.Operator.{Operator}
use Rattle.rules.specs.declared.Point.{Point}
use Rattle.rules.specs.Basics.{entries, joined, Each}
use Rattle.rules.specs.Limits.{most_energy, most_price, most_accounts, most_operators, most_zones}
use Rattle.rules.specs.Books.{Account, Setup, counts_of, operator_count, account_count, point_count}
use Rattle.rules.specs.Opening.{price_in, operator_in, margin_in, account_in, point_in, counts_in, operators_offset, accounts_offset, lower_offset, upper_offset, points_offset, estimates_in, operators_in, accounts_in, points_in, setup_of, guarantees_of, operator_bytes, margin_bytes, account_bytes, point_bytes, operators_of, setup_bytes, price_width, operator_entry, margin_width, account_entry, point_entry, counts_width}
use Rattle.rules.proofs.Basics.Searches.{each_map, each_both, each_any}
use Rattle.rules.proofs.Setups.SetupEntries.{entries_joined, joined_entries}
use Rattle.image.specs.Layout.{setup_room}
use Rattle.image.specs.Image.{stored_setup}
use Rattle.image.proofs.Sound.Soundness.{MarginsAll, SoundSetup}
use Rattle.image.proofs.Writing.Sizes.{◌then◌, length_joined, length-operator_bytes, length-margin_bytes, length_margins, length-account_bytes, length-point_bytes, length_operators}
use Rattle.image.proofs.Setups.SetupRanges.{SoundOperator, SoundAccount, SoundPoint, InRange, values-in_range, maintenance_of, guarantees_of_lem}

-- ---- parts side by side

-- what stands from part k on
drop-flat : (ws : List ℕ) (ss : List (List ℕ)) (k at : ℕ) → Wide ws ss → at ≡ start_of ws k → drop at (flat ss) ≡ flat (drop k ss)
unfolding flat
drop-flat ws ss zero at h e = rw e
drop-flat [] [] (suc k) at h e = rw e
drop-flat [] (s ∷ ss) (suc k) at h e = absurd h
drop-flat (w ∷ ws) [] (suc k) at h e = absurd h
drop-flat (w ∷ ws) (s ∷ ss) (suc k) at h e =
    let f : at ≡ length s + start_of ws k = omega (arith, h.0) in
    rw (f, drop-append-add s (flat ss) (start_of ws k)) (drop-flat ws ss k (start_of ws k) h.1 refl)

-- ---- an entry

price_back : (x : CentsPerMwh) → x.0 ≤ most_price → price_in (le price_width x.0) ≡ x
unfolding price_in
price_back x h = rw (number-le 4 x.0 (omega arith))

pub price_again : (c : List ℕ) → Bytes c → length c ≡ price_width → le price_width (price_in c).0 ≡ c
unfolding price_in
price_again c b l = le_number_wide b 4 l

operator_back : (x : Operator) → SoundOperator x → operator_in (operator_bytes x) ≡ x
unfolding operator_in
operator_back x h =
    let ws : List ℕ = 8 ∷ 2 ∷ [] in
    let vs : List ℕ = x.guarantee.0 ∷ x.maintenance ∷ [] in
    let fit : Small ws vs = omega (arith, h.0) then omega (arith, h.1) then tt in
    rw (number_in_pack ws vs 0 fit, number_in_pack ws vs 1 fit)

pub operator_again : (c : List ℕ) → Bytes c → length c ≡ operator_entry → operator_bytes (operator_in c) ≡ c
unfolding operator_in
operator_again c b l = pack-numbers (8 ∷ 2 ∷ []) b l

margin_back : (x : Kwh) → x.0 ≤ most_energy → margin_in (margin_bytes x) ≡ x
unfolding margin_in
margin_back x h = rw (number-le margin_width x.0 (omega arith))

margin_again : (c : List ℕ) → Bytes c → length c ≡ margin_width → margin_bytes (margin_in c) ≡ c
unfolding margin_in
margin_again c b l = le_number_wide b margin_width l

-- a margin for each hour, whatever follows
margins_back : (hours : ℕ) (xs : List Kwh) (rest : List ℕ) → length xs ≡ hours → Each (λ m. m.0 ≤ most_energy) xs
    → entries margin_width margin_in hours (joined margin_bytes xs ++ rest) ≡ xs
margins_back hours xs rest l e =
    rw (← l) (entries_joined margin_width margin_bytes margin_in xs rest (each_map margin_back e) (each_any xs length-margin_bytes))

margins_again : (hours at : ℕ) (c : List ℕ) → Bytes c → at + margin_width * hours ≤ length c
    → joined margin_bytes (entries margin_width margin_in hours (drop at c)) ≡ take (margin_width * hours) (drop at c)
margins_again hours at c b h =
    joined_entries margin_width margin_bytes margin_in hours (drop at c) (bytes_drop at b) (omega (arith, length-drop at c)) margin_again

-- operator and kind, the lower margins, the upper ones
account_parts : Account → List (List ℕ)
account_parts x = pack (1 ∷ 1 ∷ []) (x.operator ∷ x.kind ∷ []) ∷ joined margin_bytes x.lower ∷ joined margin_bytes x.upper ∷ []

account_widths : Counts → List ℕ
account_widths n = lower_offset ∷ margin_width * n.hours ∷ margin_width * n.hours ∷ []

account_parts_lem : (x : Account) → account_bytes x ≡ flat (account_parts x)
unfolding flat account_parts
account_parts_lem x = simp (append_assoc, append-nil)

module _ (n : Counts) (x : Account) (m : MarginsAll n.hours x) where
  wide_account : Wide (account_widths n) (account_parts x)
  unfolding account_widths account_parts
  wide_account =
      length-pack (1 ∷ 1 ∷ []) (x.operator ∷ x.kind ∷ []) refl
      then (length_margins x.lower ∙ rw m.lower_all)
      then (length_margins x.upper ∙ rw m.upper_all)
      then tt

  account_back : n.operators ≤ most_operators → SoundAccount n.operators x → account_in n (account_bytes x) ≡ x
  unfolding account_in account_widths account_parts flat
  account_back most s =
      let parts = account_parts x in
      let wide = wide_account in
      let ws : List ℕ = 1 ∷ 1 ∷ [] in
      let vs : List ℕ = x.operator ∷ x.kind ∷ [] in
      let fit : Small ws vs = omega (arith, s.operator_high) then omega (arith, s.kind_high) then tt in
      ap (account_in n) (account_parts_lem x)
      ∙ rw (
        number_part (account_widths n) parts wide 0 0 1 0 (omega arith) (omega arith) refl,
        number_part (account_widths n) parts wide 0 1 1 1 (omega arith) (omega arith) refl,
        number_in_pack ws vs 0 fit,
        number_in_pack ws vs 1 fit,
        drop-flat (account_widths n) parts 1 lower_offset wide (omega arith),
        drop-flat (account_widths n) parts 2 (upper_offset n) wide (omega arith),
        margins_back n.hours x.lower (joined margin_bytes x.upper ++ []) m.lower_all s.lower_high,
        margins_back n.hours x.upper [] m.upper_all s.upper_high,
      )

pub account_again : (n : Counts) (c : List ℕ) → Bytes c → length c ≡ account_entry n → account_bytes (account_in n c) ≡ c
unfolding account_in account_entry
account_again n c b l =
    let w : ℕ = margin_width * n.hours in
    let front : pack (1 ∷ 1 ∷ []) (number_at c 0 1 ∷ number_at c 1 1 ∷ []) ≡ take lower_offset c =
    rw (← number_inner 1 0 lower_offset 0 c (omega arith), ← number_inner 1 1 lower_offset 0 c (omega arith))
    (pack-numbers (1 ∷ 1 ∷ []) (bytes_take lower_offset b) (length-take-le lower_offset c (omega arith))) in
    let lower = margins_again n.hours lower_offset c b (omega arith) in
    let upper = margins_again n.hours (upper_offset n) c b (omega arith) in
    rw (front, lower, upper, ← take-add lower_offset w c, ← take-add (upper_offset n) w c) (take_all (account_entry n) c (omega arith))

capped : (t : Bool) (x n : ℕ) → x ≤ (if t then 0 else n) → x ≤ n
capped true x n h = omega arith
capped false x n h = h

point_back : (accounts : List Account) (zones : ℕ) → length accounts ≤ most_accounts → zones ≤ most_zones → (x : Point) → SoundPoint accounts zones x
    → point_in (point_bytes x) ≡ x
unfolding point_in
point_back accounts zones m z x s =
    let ws : List ℕ = 1 ∷ 1 ∷ 1 ∷ 4 ∷ 4 ∷ [] in
    let vs : List ℕ = x.account ∷ x.kind ∷ x.zone ∷ x.injection.0 ∷ x.withdrawal.0 ∷ [] in
    let i = capped (eqb x.kind 2) x.injection.0 most_energy s.injection_high in
    let w = capped (eqb x.kind 1) x.withdrawal.0 most_energy s.withdrawal_high in
    let fit : Small ws vs = omega arith then omega arith then omega arith then omega arith then omega arith then tt in
    rw (number_in_pack ws vs 0 fit, number_in_pack ws vs 1 fit, number_in_pack ws vs 2 fit, number_in_pack ws vs 3 fit, number_in_pack ws vs 4 fit)

pub point_again : (c : List ℕ) → Bytes c → length c ≡ point_entry → point_bytes (point_in c) ≡ c
unfolding point_in
point_again c b l = pack-numbers (1 ∷ 1 ∷ 1 ∷ 4 ∷ 4 ∷ []) b l

-- ---- the bytes of a set-up

-- the counts, the entries, and what follows
setup_parts : Setup → List Cents → List ℕ → List (List ℕ)
setup_parts u gs rest =
    (u.hours ∷ operator_count u ∷ account_count u ∷ point_count u ∷ u.zones ∷ [])
    ∷ joined (λ p. le 4 p.0) u.estimates
    ∷ joined operator_bytes (operators_of gs u.maintenance)
    ∷ joined account_bytes u.accounts
    ∷ joined point_bytes u.points
    ∷ rest
    ∷ []

setup_widths : Counts → ℕ → List ℕ
setup_widths n rest = counts_width ∷ price_width * n.hours ∷ operator_entry * n.operators ∷ account_entry n * n.accounts ∷ point_entry * n.points ∷ rest ∷ []

setup_parts_lem : (u : Setup) (gs : List Cents) (rest : List ℕ) → setup_bytes u gs ++ rest ≡ flat (setup_parts u gs rest)
unfolding setup_bytes flat setup_parts
setup_parts_lem u gs rest = simp (append_assoc, append-nil)

module _ (u : Setup) (gs : List Cents) (rest : List ℕ) (sound : SoundSetup u) (all : length gs ≡ operator_count u) where
  wide_setup : Wide (setup_widths (counts_of u) (length rest)) (setup_parts u gs rest)
  unfolding setup_widths setup_parts
  wide_setup =
      refl
      then (length_joined 4 (λ p. le 4 p.0) u.estimates (each_any _ (λ p. length-le 4 p.0)) ∙ omega (arith, sound.estimates_all))
      then (length_joined operator_entry operator_bytes (operators_of gs u.maintenance) (each_any _ length-operator_bytes)
      ∙ omega (arith, length_operators gs u.maintenance all))
      then length_joined (account_entry (counts_of u)) account_bytes u.accounts (each_map (length-account_bytes (counts_of u)) sound.margins_all)
      then length_joined point_entry point_bytes u.points (each_any _ length-point_bytes)
      then refl
      then tt

-- what stands in the bytes of a set-up is read back, whatever follows
module _ (u : Setup) (gs : List Cents) (rest : List ℕ) (sound : SoundSetup u) (all : length gs ≡ operator_count u)
    (range : InRange u (operators_of gs u.maintenance)) where
  bytes : List ℕ
  bytes = flat (setup_parts u gs rest)

  from : (k at : ℕ) → at ≡ start_of (setup_widths (counts_of u) (length rest)) k → drop at bytes ≡ flat (drop k (setup_parts u gs rest))
  unfolding bytes
  from k at e = drop-flat (setup_widths (counts_of u) (length rest)) (setup_parts u gs rest) k at (wide_setup u gs rest sound all) e

  counts_back : counts_in bytes ≡ counts_of u
  unfolding bytes setup_parts flat
  counts_back = refl

  estimates_back : estimates_in bytes ≡ u.estimates
  unfolding estimates_in setup_parts setup_widths flat
  estimates_back =
      ap (λ (n : Counts). entries price_width price_in n.hours (drop 5 bytes)) counts_back
      ∙ rw (from 1 5 (omega arith), ← sound.estimates_all)
      (entries_joined 4 (λ p. le 4 p.0) price_in u.estimates _ (each_map price_back range.estimates_sound) (each_any _ (λ p. length-le 4 p.0)))

  operators_back : operators_in bytes ≡ operators_of gs u.maintenance
  unfolding operators_in setup_parts setup_widths flat
  operators_back =
      ap (λ (n : Counts). entries operator_entry operator_in n.operators (drop (operators_offset n) bytes)) counts_back
      ∙ rw (from 2 (operators_offset (counts_of u)) (omega arith), ← (length_operators gs u.maintenance all))
      (entries_joined operator_entry operator_bytes operator_in (operators_of gs u.maintenance) _
      (each_map operator_back range.operators_sound) (each_any _ length-operator_bytes))

  accounts_back : accounts_in bytes ≡ u.accounts
  unfolding accounts_in setup_parts setup_widths flat
  accounts_back =
      let n = counts_of u in
      let said = each_both (λ x m s. account_back n x m sound.operators_high s) sound.margins_all range.accounts_sound in
      ap (λ (n : Counts). entries (account_entry n) (account_in n) n.accounts (drop (accounts_offset n) bytes)) counts_back
      ∙ rw (from 3 (accounts_offset n) (omega arith))
      (entries_joined (account_entry n) account_bytes (account_in n) u.accounts _ said (each_map (length-account_bytes n) sound.margins_all))

  points_back : points_in bytes ≡ u.points
  unfolding points_in setup_parts setup_widths flat
  points_back =
      ap (λ (n : Counts). entries point_entry point_in n.points (drop (points_offset n) bytes)) counts_back
      ∙ rw (from 4 (points_offset (counts_of u)) (omega arith))
      (entries_joined point_entry point_bytes point_in u.points _
      (each_map (point_back u.accounts u.zones sound.accounts_high sound.zones_high) range.points_sound) (each_any _ length-point_bytes))

  pub bytes_say_setup : setup_of (setup_bytes u gs ++ rest) ≡ u
  unfolding setup_of bytes
  bytes_say_setup =
      let hours : get_or bytes 0 0 ≡ u.hours = ap (λ (n : Counts). n.hours) counts_back in
      let zones : get_or bytes 4 0 ≡ u.zones = ap (λ (n : Counts). n.zones) counts_back in
      ap setup_of (setup_parts_lem u gs rest)
      ∙ rw (hours, zones, estimates_back, operators_back, accounts_back, points_back, maintenance_of gs u.maintenance all)

  pub bytes_say_guarantees : guarantees_of (setup_bytes u gs ++ rest) ≡ gs
  unfolding guarantees_of bytes
  bytes_say_guarantees = ap guarantees_of (setup_parts_lem u gs rest) ∙ rw (operators_back, guarantees_of_lem gs u.maintenance all)

-- ---- a set-up in its room of a book

module _ (u : Setup) (sound : SoundSetup u) where
  zeros_all : length (replicate (operator_count u) (cents 0)) ≡ operator_count u
  zeros_all = length-replicate (operator_count u) (cents 0)

  pub setup_back : setup_of (padded setup_room (stored_setup u)) ≡ u
  unfolding stored_setup padded
  setup_back = bytes_say_setup u (replicate (operator_count u) (cents 0)) _ sound zeros_all (values-in_range u _ sound.in_range)

  pub guarantees_back : guarantees_of (padded setup_room (stored_setup u)) ≡ replicate (operator_count u) (cents 0)
  unfolding stored_setup padded
  guarantees_back = bytes_say_guarantees u (replicate (operator_count u) (cents 0)) _ sound zeros_all (values-in_range u _ sound.in_range)

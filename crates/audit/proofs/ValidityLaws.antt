-- The set-up's section as code tests it: opening accepts its bytes and no guarantee stands in them exactly where it stands.
use Rattle.std.specs.Prelude.{Option, None}
use Prim.Native.Nat.{ℕ, zero, suc, ◌+◌, ◌-◌, ◌*◌, ◌≤◌, ◌<◌}
use mathlib.Core.Path.{◌≡◌, refl, sym, ap, ◌∙◌}
use mathlib.Core.List.{List, [], ◌∷◌}
use mathlib.Core.Bool.{Bool, true, false, not, ◌&&◌}
use native.Mathlib.Numerals.{add-one}
use native.Mathlib.Omega.{arith}
use lib.ListN.{length, take, replicate, length-replicate}
use borrow.Author.Tests.{le-leb, lt-leb, not-true}
use Rattle.wire.specs.Numbers.{Bytes}
use Rattle.wire.specs.Regions.{zeros_from}
use Rattle.units.specs.declared.Cents.{Cents}
use Rattle.units.specs.Units.{cents}
use Rattle.rules.specs.declared.Counts.{Counts}
use Rattle.rules.specs.declared.Refusal.{Refusal}
use Rattle.rules.specs.Basics.{all_of, every, counting, is_some, Each, nil, cons}
use Rattle.rules.specs.Limits.{thousand, book_size, most_hours}
use Rattle.rules.specs.Books.{Setup, operator_count}
use Rattle.rules.specs.Opening.{counts_in, operators_offset, setup_length, setup_of, operators_of, setup_refusal, guarantee_width, operator_entry}
use Rattle.rules.proofs.Basics.Tests.{holds_at, chained_all}
use Rattle.rules.proofs.Basics.Searches.{none_of}
use Rattle.rules.proofs.Setups.SetupEntries.{counts_of_setup}
use Rattle.image.specs.Layout.{setup_room}
use Rattle.image.proofs.Writing.Sizes.{sound_short}
use Rattle.image.proofs.Sound.Soundness.{SoundSetup, sound_setup}
use Rattle.image.proofs.Setups.SetupRanges.{SoundOperator, values-in_range}
use Rattle.image.proofs.Setups.SetupAgain.{setup_short, setup_in_front}
use Rattle.audit.specs.Exact.{no_guarantees}
use Rattle.audit.specs.Validity.{setup_valid_tests, setup_valid, SetupKnown}
use Rattle.audit.proofs.SetupTests.{setup_sound_in, setup_accepted_in}

-- what failed did not pass, so that anything follows of its passing
pub not_passed : {A : Type 0} → false ≡ true → A
not_passed e = let z : ◌≡◌ {A = ℕ} 0 1 = cc in absurd (omega arith)

-- a test fails where one that holds with it fails
pub fails_with : (t : Bool) {u : Bool} → (t ≡ true → u ≡ true) → u ≡ false → t ≡ false
fails_with true f e = sym (f refl) ∙ e
fails_with false f e = refl

-- ---- the operators by their numbers

no_guarantees_from : (s : List ℕ) (at n k : ℕ)
    → no_guarantees s (at + operator_entry * k) n ≡ every (λ i. zeros_from s (at + operator_entry * i) guarantee_width) (counting n k)
unfolding no_guarantees every counting
no_guarantees_from s at zero k = refl
no_guarantees_from s at (suc n) k =
    let next : at + operator_entry * k + operator_entry ≡ at + operator_entry * (k + 1) = omega arith in
    rw (next, no_guarantees_from s at n (k + 1), add-one k)

pub no_guarantees_by_number : (s : List ℕ) (at n : ℕ)
    → no_guarantees s at n ≡ every (λ i. zeros_from s (at + operator_entry * i) guarantee_width) (counting n 0)
no_guarantees_by_number s at n = let e : at + operator_entry * 0 ≡ at = omega arith in rw e at (no_guarantees_from s at n 0)

-- ---- a set-up that stands is known

maintenance_each : (gs : List Cents) (ms : List ℕ) → length gs ≡ length ms → Each SoundOperator (operators_of gs ms) → Each (λ m. m ≤ thousand) ms
unfolding operators_of
maintenance_each [] [] h e = nil
maintenance_each [] (m ∷ ms) h e = absurd (omega arith)
maintenance_each (g ∷ gs) [] h e = absurd (omega arith)
maintenance_each (g ∷ gs) (m ∷ ms) h (cons p e) = cons p.1 (maintenance_each gs ms (omega arith) e)

sound_known : (s : List ℕ) → length s ≡ book_size → SoundSetup (setup_of s) → SetupKnown most_hours s
unfolding setup_of
sound_known s l k =
    let u : Setup = setup_of s in
    let c = counts_of_setup s in
    let operators = ap (λ (n : Counts). n.operators) c in
    let accounts = ap (λ (n : Counts). n.accounts) c in
    let hours = ap (λ (n : Counts). n.hours) c in
    let v = values-in_range u (operators_of (replicate (operator_count u) (cents 0)) u.maintenance) k.in_range in
    record {
      size = l;
      tabled = record {
        whole = omega (arith, ap setup_length c, sound_short u k);
        accounts_high = omega (arith, k.accounts_high);
        hours_high = omega (arith, k.hours_high);
      };
      operators_high = omega (arith, k.operators_high);
      prices_high = v.estimates_sound;
      maintenance_high = maintenance_each (replicate (operator_count u) (cents 0)) u.maintenance (length-replicate (operator_count u) (cents 0)) v.operators_sound;
    }

pub setup_known : (s : List ℕ) → length s ≡ book_size → setup_valid s ≡ true → SetupKnown most_hours s
unfolding setup_valid
setup_known s l t =
    let k = sound_setup (setup_of (take setup_room s)) (holds_at 0 (setup_valid_tests s) t) in
    sound_known s l (rw (setup_in_front s k) at k)

-- a set-up that stands has room: one that its counts make longer does not stand
pub too_long : (s : List ℕ) (n : Counts) (size : ℕ) → length s ≡ book_size → n ≡ counts_in s → size ≡ setup_length n → setup_room < size
    → false ≡ setup_valid s
unfolding setup_valid
too_long s n size l d e h =
    sym (fails_with (setup_valid s) (λ t.
    let k = setup_short s (sound_setup (setup_of (take setup_room s)) (holds_at 0 (setup_valid_tests s) t)) in
    le-leb size setup_room (omega (arith, ap setup_length d))) (lt-leb size setup_room h))

-- ---- by what opening would say of its bytes

module _ (s : List ℕ) (b : Bytes s) (l : length s ≡ book_size) (size : ℕ) (e : size ≡ setup_length (counts_in s)) where
  accepted_here : not (is_some (setup_refusal (take size s))) ≡ true → setup_refusal (take (setup_length (counts_in s)) s) ≡ None
  accepted_here t = ap (λ (n : ℕ). setup_refusal (take n s)) (sym e) ∙ none_of (setup_refusal (take size s)) (not-true _ t)

  pub refused_setup : not (is_some (setup_refusal (take size s))) ≡ false → false ≡ setup_valid s
  unfolding setup_valid
  refused_setup f =
      sym (fails_with (setup_valid s) (λ t.
      let n = setup_accepted_in s b (omega arith) (holds_at 1 (setup_valid_tests s) t) (holds_at 0 (setup_valid_tests s) t) in
      ap (λ (o : Option Refusal). not (is_some o)) (ap (λ (m : ℕ). setup_refusal (take m s)) e ∙ n)) f)

  pub accepted_setup : {lodged zero : Bool} → not (is_some (setup_refusal (take size s))) ≡ true
      → lodged ≡ no_guarantees s (operators_offset (counts_in s)) (counts_in s).operators → zero ≡ zeros_from s size (setup_room - size)
      → (lodged && zero) ≡ setup_valid s
  unfolding setup_valid all_of
  accepted_setup {lodged} {zero} t n z = chained_all lodged (zero ∷ []) ∙ rw (n, z, e, setup_sound_in s b (omega arith) (accepted_here t))

-- The asks' section is that of its image exactly where each place has an ask or zeros. As code tests them, the places pass exactly where
-- that is so and each ask is in range. Where the whole section is zero, they pass.
use Rattle.std.specs.Prelude.{Option, None, Some}
use Prim.Native.Nat.{ℕ, suc, ◌+◌, ◌-◌, ◌*◌, ◌≤◌, ◌<◌}
use mathlib.Core.Path.{◌≡◌, refl, sym, ap, ◌∙◌}
use mathlib.Core.List.{List, [], ◌∷◌, map, append-nil}
use mathlib.Core.Bool.{Bool, true, false, ◌&&◌, and-true}
use native.Mathlib.Omega.{arith}
use lib.ListN.{length, get_or, take, drop, replicate, length-map, length-drop, get_or-replicate}
use lib.Seq.{length-take-le, take_all}
use lib.Dec.{eqb}
use borrow.Author.Tests.{eq-eqb, ne_eqb}
use Rattle.wire.specs.Numbers.{number, number_at, Bytes}
use Rattle.wire.specs.Regions.{zeros_from}
use Rattle.wire.specs.Parts.{zeros, flat, cells, slots, chunks}
use Rattle.wire.proofs.NumberLaws.{bytes_take, bytes_drop}
use Rattle.wire.proofs.ZeroLaws.{length-zeros, zeros_read, zeros_tested}
use Rattle.wire.proofs.PartLaws.{inner}
use Rattle.wire.proofs.SlotLaws.{uniform_replicate, read_cell, flat_zero_cells, length-chunks, chunk_at, chunks_front, flat-chunks, chunks_slots}
use Rattle.rules.specs.declared.Row.{Row}
use Rattle.rules.specs.Basics.{every, entries, nth, up_to, Each, nil, cons}
use Rattle.rules.specs.Limits.{most_accounts}
use Rattle.rules.specs.Opening.{setup_of}
use Rattle.rules.specs.Registration.{pending}
use Rattle.rules.proofs.Basics.Tests.{and_both}
use Rattle.rules.proofs.Basics.Searches.{each_at, at_each}
use Rattle.rules.proofs.Setups.SetupEntries.{nth_entry}
use Rattle.image.specs.Layout.{row_width, asks_size, asks_offset, ask_offset}
use Rattle.image.specs.Image.{ask_bytes, row_in, ask_in}
use Rattle.image.specs.Valid.{row_ok, ask_ok, asks_ok}
use Rattle.image.proofs.Sound.Soundness.{every_up_to, up_to_every}
use Rattle.image.proofs.Writing.Sizes.{length_ask}
use Rattle.image.proofs.Round.{row_again}
use Rattle.audit.specs.Exact.{ask_exact, asks_exact}
use Rattle.audit.specs.Validity.{ask_valid, asks_valid}

-- ---- one place

module _ (s : List ℕ) (at : ℕ) where
  abbrev place : List ℕ
  place = take row_width (drop at s)

  -- as code tests it: by zeros where the status is 0, else by the row
  pub without_ask : (a : ℕ) {r : Row} → r ≡ row_in place → r.status ≡ 0 → ask_valid s a at ≡ zeros_from s at row_width
  unfolding ask_valid
  without_ask a e z = rw (← e, eq-eqb _ _ z)

  pub with_ask : (a : ℕ) {r : Row} {ok : Bool} → r ≡ row_in place → (r.status ≡ 0 → ⊥) → ok ≡ row_ok (setup_of s) r
      → (eqb r.proposer a && pending r && ok) ≡ ask_valid s a at
  unfolding ask_valid
  with_ask a e n t = rw (← e, ne_eqb _ _ n, t)

  -- that is: the ask is in range, and nothing else stands there
  place_valid : (a : ℕ) → ask_valid s a at ≡ (ask_ok (setup_of s) a (ask_in place) && ask_exact s at)
  unfolding ask_valid ask_in
  place_valid a = go (eqb (row_in place).status 0) refl
    where
      go : (t : Bool) → eqb (row_in place).status 0 ≡ t → ask_valid s a at ≡ (ask_ok (setup_of s) a (ask_in place) && ask_exact s at)
      go true e = rw e
      go false e = rw e (sym (and-true _))

  -- zeros pass
  zero_place : (a : ℕ) → at + row_width ≤ length s → place ≡ zeros row_width → ask_valid s a at ≡ true
  unfolding ask_valid row_in zeros number number_at
  zero_place a l e = rw e (zeros_tested row_width s at l e)

  -- what was read makes the same bytes again, where it is an ask or zeros
  place_exact : at + row_width ≤ length s → ask_bytes (ask_in place) ≡ place → ask_exact s at ≡ true
  place_exact l e = go (ask_in place) refl
    where
      go : (o : Option Row) → ask_in place ≡ o → ask_exact s at ≡ true
      go None f = rw f (zeros_tested row_width s at l (sym e ∙ ap ask_bytes f))
      go (Some r) f = rw f

  exact_place : Bytes s → at + row_width ≤ length s → ask_exact s at ≡ true → ask_bytes (ask_in place) ≡ place
  unfolding ask_in
  exact_place b l h = go (eqb (row_in place).status 0) refl
    where
      go : (t : Bool) → eqb (row_in place).status 0 ≡ t → ask_bytes (ask_in place) ≡ place
      go true f = rw f (sym (zeros_read row_width s at l (rw f at h)))
      go false f = rw f (row_again place (bytes_take row_width (bytes_drop at b)) (length-take-le row_width (drop at s) (omega (arith, length-drop at s))))

-- ---- cells made again, one by one

module _ {A : Type 0} (enc : A → List ℕ) (dec : List ℕ → A) where
  again_each : (cs : List (List ℕ)) → map enc (map dec cs) ≡ cs → Each (λ c. enc (dec c) ≡ c) cs
  again_each [] e = nil
  again_each (c ∷ cs) e = cons {x = c} (cc) (again_each cs (cc))

  each_again : {cs : List (List ℕ)} → Each (λ c. enc (dec c) ≡ c) cs → map enc (map dec cs) ≡ cs
  each_again nil = refl
  each_again (cons e es) = rw (e, each_again es)

-- ---- the section

module _ (top : ℕ) (s : List ℕ) where
  abbrev room : List ℕ
  room = take asks_size (drop (asks_offset top) s)

  abbrev places : List (List ℕ)
  places = chunks row_width most_accounts room

  abbrev asks : List (Option Row)
  asks = map ask_in places

  asks_count : length asks ≡ most_accounts
  asks_count = length-map places ask_in ∙ length-chunks row_width most_accounts room

  ask_there : (a : ℕ) → 1 ≤ a → a ≤ most_accounts → nth asks a None ≡ ask_in (place s (ask_offset top a))
  unfolding entries
  ask_there a low high =
      ap (λ (cs : List (List ℕ)). nth (map ask_in cs) a None) (chunks_front row_width most_accounts asks_size (drop (asks_offset top) s) (omega arith))
      ∙ nth_entry row_width ask_in most_accounts a (asks_offset top) s None low high

  place_there : (i : ℕ) → i < most_accounts → get_or places i [] ≡ place s (asks_offset top + row_width * i)
  place_there i h = chunk_at row_width most_accounts room i h ∙ inner row_width (row_width * i) asks_size (asks_offset top) s (omega arith)

  -- as code tests it
  pub asks_valid_lem : asks_ok (setup_of s) asks ≡ true → asks_exact top s ≡ true → asks_valid top s ≡ true
  unfolding asks_exact asks_valid
  asks_valid_lem h t =
      let w = (and_both (eqb (length asks) most_accounts) (every (λ a. ask_ok (setup_of s) a (nth asks a None)) (up_to most_accounts))).0 h in
      up_to_every _ most_accounts (λ a low high.
      place_valid s (ask_offset top a) a
      ∙ (and_both _ _).1 (rw (ask_there a low high) at (every_up_to _ most_accounts w.1 a low high), every_up_to _ most_accounts t a low high))

  pub valid_asks : asks_valid top s ≡ true → (asks_ok (setup_of s) asks ≡ true) × (asks_exact top s ≡ true)
  unfolding asks_exact asks_valid
  valid_asks h =
      let both : (a : ℕ) → 1 ≤ a → a ≤ most_accounts → (ask_ok (setup_of s) a (ask_in (place s (ask_offset top a))) ≡ true) × (ask_exact s (ask_offset top a) ≡ true) =
      λ a low high. (and_both _ _).0 (sym (place_valid s (ask_offset top a) a) ∙ every_up_to _ most_accounts h a low high) in (
        (and_both (eqb (length asks) most_accounts) (every (λ a. ask_ok (setup_of s) a (nth asks a None)) (up_to most_accounts))).1
            (eq-eqb _ _ asks_count, up_to_every _ most_accounts (λ a low high. rw (ask_there a low high) (both a low high).0)),
        up_to_every _ most_accounts (λ a low high. (both a low high).1),
      )

  module _ (l : asks_offset top + asks_size ≤ length s) where
    length-room : length room ≡ asks_size
    length-room = length-take-le asks_size (drop (asks_offset top) s) (omega (arith, length-drop (asks_offset top) s))

    -- no ask stands
    pub zero_asks : zeros_from s (asks_offset top) asks_size ≡ true → asks_valid top s ≡ true
    unfolding asks_valid
    zero_asks t =
        up_to_every _ most_accounts (λ a low high.
        let i : ℕ = a - 1 in
        let cs : List (List ℕ) = replicate most_accounts (zeros row_width) in
        let z : room ≡ flat cs = zeros_read asks_size s (asks_offset top) l t ∙ sym (flat_zero_cells row_width most_accounts) in
        let e : place s (ask_offset top a) ≡ zeros row_width =
        sym (inner row_width (row_width * i) asks_size (asks_offset top) s (omega arith))
        ∙ ap (λ (x : List ℕ). take row_width (drop (row_width * i) x)) z
        ∙ read_cell row_width cs (uniform_replicate row_width most_accounts (zeros row_width) (length-zeros row_width)) i 0 row_width (row_width * i) (omega arith) (omega arith) (omega arith)
        ∙ ap (take row_width) (get_or-replicate most_accounts i (zeros row_width) [] (omega arith))
        ∙ take_all row_width (zeros row_width) (omega (arith, length-zeros row_width)) in
        zero_place s (ask_offset top a) a (omega arith) e)

    -- the section of the image
    pub asks_exact_lem : slots row_width most_accounts ask_bytes asks ≡ room → asks_exact top s ≡ true
    unfolding asks_exact
    asks_exact_lem e =
        let again : map ask_bytes asks ≡ places =
        sym (chunks_slots row_width most_accounts ask_bytes length_ask asks) ∙ rw (asks_count, e) in
        up_to_every _ most_accounts (λ a low high.
        place_exact s (ask_offset top a) (omega arith)
        (rw (place_there (a - 1) (omega arith)) at (each_at [] (a - 1) (again_each ask_bytes ask_in places again) (rw length-chunks (omega arith)))))

    pub exact_asks : Bytes s → asks_exact top s ≡ true → slots row_width most_accounts ask_bytes asks ≡ room
    unfolding asks_exact slots cells
    exact_asks b t =
        let n = length-chunks row_width most_accounts room in
        let again : map ask_bytes asks ≡ places =
        each_again ask_bytes ask_in (at_each [] places (λ i h.
        let e : suc i - 1 ≡ i = omega arith in
        rw (place_there i (omega arith)) (exact_place s (asks_offset top + row_width * i) b (omega arith) (rw e at (every_up_to _ most_accounts t (suc i) (omega arith) (omega arith)))))) in
        rw (asks_count, again, append-nil places) (flat-chunks row_width most_accounts room ∙ take_all asks_size room (omega (arith, length-room)))

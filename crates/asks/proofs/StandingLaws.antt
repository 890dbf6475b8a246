-- The asks of a book tested one by one: a place without an ask passes, and an ask where register would accept its row.
use Rattle.std.specs.Prelude.{Option, None, Some}
use Prim.Native.Nat.{ℕ, ◌+◌, ◌≤◌, ◌<◌}
use mathlib.Core.Path.{◌≡◌, refl, sym, ap, ◌∙◌}
use mathlib.Core.List.{List, [], ◌∷◌, ◌++◌}
use mathlib.Core.Bool.{Bool, true, false, not}
use native.Mathlib.Omega.{arith}
use lib.ListN.{length, take, drop, length-drop, take-append-drop}
use lib.Seq.{drop-drop, length-take-le}
use borrow.Author.Tests.{eqb-true, not-true, not-false}
use Rattle.wire.specs.Regions.{zeros_from, splice}
use Rattle.wire.specs.Parts.{zeros}
use Rattle.wire.proofs.RegionLaws.{splice_take_drop}
use Rattle.wire.proofs.ZeroLaws.{zeros_read}
use Rattle.rules.specs.declared.Row.{Row}
use Rattle.rules.specs.declared.Refusal.{Refusal}
use Rattle.rules.specs.Basics.{is_some, any_passes}
use Rattle.rules.specs.Limits.{most_accounts, most_hours, most_rows, book_size}
use Rattle.rules.specs.Books.{Book, with_asks, ask_at, no_asks, operator_of}
use Rattle.rules.specs.Requests.{register}
use Rattle.rules.specs.Registration.{with_status, proposed, register_of, alike, broken_by}
use Rattle.rules.specs.Asks.{would_register, ask_stands, asks_stand}
use Rattle.rules.proofs.Basics.Searches.{some_of, none_of}
use Rattle.image.specs.Layout.{asks_offset, asks_size}
use Rattle.image.specs.Valid.{row_ok, is_sound, book_in}
use Rattle.image.proofs.Sound.Soundness.{row_sound}
use Rattle.image.proofs.Sound.SoundBooks.{AskRow, book_sound}
use Rattle.image.proofs.Round.{one_book}
use Rattle.image.proofs.Keeping.KeepsChanges.{cleared_sound}
use Rattle.image.proofs.Keeping.Keeps.{cleared_stands}
use Rattle.book.specs.Kinds.{decided}
use Rattle.book.proofs.StateLaws.{book_image, book_length, book_ok_lem, book_is_sound}
use Rattle.book.proofs.Answers.{in_wrong_phase}
use Rattle.registration.specs.Proposing.{Proposing}
use Rattle.registration.specs.Cover.{covered_with_row}
use Rattle.registration.proofs.RegisterLaws.{no_number_left, margin_breaks, row_uncovered, covered_with_row_lem}
use Rattle.asks.specs.Standing.{some_ask_twin}
use Rattle.asks.proofs.PlaceLaws.{asked_pending, cleared_written}
use Rattle.asks.proofs.TwinLaws.{none_twin}

-- zeros put where zeros stand change nothing
zeros_again : (s : List ℕ) (at n : ℕ) → at + n ≤ length s → zeros_from s at n ≡ true → splice s at (zeros n) ≡ s
zeros_again s at n inside e =
    let x : List ℕ = take n (drop at s) in
    let wide : length x ≡ n = length-take-le n (drop at s) (omega (arith, length-drop at s)) in
    let behind : drop (at + length x) s ≡ drop n (drop at s) = ap (λ (m : ℕ). drop (at + m) s) wide ∙ sym (drop-drop n at s) in
    ap (splice s at) (sym (zeros_read n s at inside e))
    ∙ splice_take_drop s at x
    ∙ ap (λ (t : List ℕ). take at s ++ (x ++ t)) behind
    ∙ ap (λ (t : List ℕ). take at s ++ t) (take-append-drop n (drop at s))
    ∙ take-append-drop at s

module _ (s : List ℕ) (h : is_sound s ≡ true) where
  -- where all places are zero no ask stands
  pub no_asks_stand : zeros_from s (asks_offset most_hours) asks_size ≡ true → asks_stand (book_in s) ≡ true
  no_asks_stand e =
      let b : Book = book_in s in
      let none_written = (cleared_written s h (sym (zeros_again s (asks_offset most_hours) asks_size (omega (arith, book_length s h)) e))).0 in
      let same : b ≡ with_asks b no_asks =
      one_book most_hours book_size b (with_asks b no_asks) (book_ok_lem s h) (book_sound _ (cleared_sound b (book_is_sound s h))) (sym (book_image s h) ∙ none_written) in
      ap asks_stand same ∙ cleared_stands b

  module _ (a : ℕ) (r : Row) (low : 1 ≤ a) (high : a ≤ most_accounts) (there : ask_at (book_in s) a ≡ Some r) where
    -- its row is a pending one of the book
    pub ask_row : AskRow (book_in s).setup a r
    ask_row = asked_pending s h a r low high there

    pub ask_in_range : row_ok (book_in s).setup r ≡ true
    ask_in_range = row_sound (book_in s).setup r ask_row.row_sound

    -- and the one that its register proposes
    proposes_it : proposed (register_of r) ≡ r
    proposes_it = ap (λ (n : ℕ). with_status n r) (sym (eqb-true r.status 1 ask_row.waits))

    -- register would accept it, or not
    passes : decided register (book_in s) (register_of r) ≡ None → true ≡ ask_stands (book_in s) (ask_at (book_in s) a)
    unfolding decided would_register
    passes e = rw there (sym (ap (λ (o : Option Refusal). not (is_some o)) e))

    falls : (why : Refusal) → decided register (book_in s) (register_of r) ≡ Some why → false ≡ ask_stands (book_in s) (ask_at (book_in s) a)
    unfolding decided would_register
    falls why e = rw there (sym (ap (λ (o : Option Refusal). not (is_some o)) e))

    -- past the phase of registration register would refuse it
    pub later_falls : ((book_in s).phase ≡ 1 → ⊥) → false ≡ ask_stands (book_in s) (ask_at (book_in s) a)
    later_falls n = falls _ (in_wrong_phase (book_in s) (register_of r) register n)

    module _ (alone : some_ask_twin (book_in s) ≡ false) (first : (book_in s).phase ≡ 1) where
      no_twin : any_passes (alike r.proposer r.counterparty r.code) (book_in s).part.rows ≡ false
      no_twin = none_twin (book_in s) alone r (ap (ask_at (book_in s)) ask_row.own ∙ there)

      -- and where no number is left
      pub full_falls : most_rows ≤ length (book_in s).part.rows → false ≡ ask_stands (book_in s) (ask_at (book_in s) a)
      full_falls full = falls _ (no_number_left (book_in s) (register_of r) first no_twin full)

      module _ (room : length (book_in s).part.rows < most_rows) where
        proposing_it : Proposing (book_in s) (register_of r)
        proposing_it =
            record { proposes = rw proposes_it ask_in_range; in_registration = first; no_twin = no_twin; has_room = room }

        -- and where it breaks a margin
        pub broken_falls : not (is_some (broken_by (book_in s).setup (book_in s).part.rows (r ∷ []) r.proposer)) ≡ false
            → false ≡ ask_stands (book_in s) (ask_at (book_in s) a)
        broken_falls e =
            let (hour, found) = some_of (broken_by (book_in s).setup (book_in s).part.rows (r ∷ []) r.proposer) (not-false _ e) in
            falls _ (margin_breaks (book_in s) (register_of r) proposing_it hour (rw proposes_it found))

        -- else the guarantee decides
        pub covered_decides : not (is_some (broken_by (book_in s).setup (book_in s).part.rows (r ∷ []) r.proposer)) ≡ true → (t : Bool)
            → t ≡ covered_with_row (book_in s) r (operator_of (book_in s).setup r.proposer) → t ≡ ask_stands (book_in s) (ask_at (book_in s) a)
        covered_decides kept true test =
            passes (covered_with_row_lem (book_in s) (register_of r) proposing_it (rw proposes_it (none_of _ (not-true _ kept))) true (rw proposes_it test) refl)
        covered_decides kept false test =
            falls _ (row_uncovered (book_in s) (register_of r) proposing_it (rw proposes_it (none_of _ (not-true _ kept))) false (rw proposes_it test) refl)

-- Rows beside the asks of their proposers: which is a twin, and what that says of the asks.
use Rattle.std.specs.Prelude.{Option, None, Some}
use Prim.Native.Nat.{ℕ, ◌≤◌, ◌<◌}
use mathlib.Core.Path.{◌≡◌, refl, sym, ap, ◌∙◌}
use mathlib.Core.List.{List, [], ◌∷◌}
use mathlib.Core.Bool.{Bool, true, false, not, ◌&&◌}
use lib.ListN.{length, get_or}
use lib.Dec.{eqb}
use borrow.Author.Tests.{eqb-true, eq-eqb, not-true}
use Rattle.rules.specs.declared.Row.{Row}
use Rattle.rules.specs.Basics.{any_passes, Each}
use Rattle.rules.specs.Limits.{most_accounts}
use Rattle.rules.specs.Books.{Book, ask_at, no_row}
use Rattle.rules.specs.Requests.{register}
use Rattle.rules.specs.Registration.{pending, alike, has_twin, register_of}
use Rattle.rules.specs.Asks.{would_register, ask_stands, asks_stand}
use Rattle.rules.proofs.Basics.Tests.{test_fails}
use Rattle.rules.proofs.Basics.Searches.{none_of, first_and_rest, each_at, at_each, each_map, any_none, none_any}
use Rattle.rules.proofs.Checks.Clearing.{clear}
use Rattle.rules.proofs.Checks.Passed.{passed_14}
use Rattle.rules.proofs.Rows.RowTests.{alike_true}
use Rattle.image.specs.Valid.{is_sound, book_in}
use Rattle.image.specs.Image.{asked_for}
use Rattle.image.proofs.Sound.Soundness.{every_up_to}
use Rattle.book.proofs.BookRows.{rows_tabled}
use Rattle.asks.specs.Standing.{twin_of, is_ask_twin, some_ask_twin}
use Rattle.asks.proofs.PlaceLaws.{asked_pending}

-- a row beside the ask of its proposer
pub ask_tested : (s : List ℕ) → is_sound s ≡ true → (r x : Row) → 1 ≤ r.proposer → r.proposer ≤ most_accounts → ask_at (book_in s) r.proposer ≡ Some x
    → (pending r && eqb r.counterparty x.counterparty && eqb r.code x.code) ≡ is_ask_twin (book_in s) r
unfolding is_ask_twin alike
ask_tested s h r x low high there =
    let k = asked_pending s h r.proposer x low high there in
    rw (there, eq-eqb r.proposer x.proposer (sym k.own)) (own (pending r))
  where
    own : (t : Bool) → (t && eqb r.counterparty x.counterparty && eqb r.code x.code)
        ≡ (t && true && eqb r.counterparty x.counterparty && eqb r.code x.code)
    own true = refl
    own false = refl

-- without one it is no twin
pub none_asked : (b : Book) (r : Row) → ask_at b r.proposer ≡ None → false ≡ is_ask_twin b r
unfolding is_ask_twin
none_asked b r e = rw e

-- a row beside what is in its proposer's place
pub twin_tested : (s : List ℕ) → is_sound s ≡ true → (r x : Row) → 1 ≤ r.proposer → r.proposer ≤ most_accounts
    → ask_at (book_in s) r.proposer ≡ asked_for x
    → (pending x && pending r && eqb r.counterparty x.counterparty && eqb r.code x.code) ≡ is_ask_twin (book_in s) r
unfolding is_ask_twin alike
twin_tested s h r x low high e = go (eqb x.status 0) refl
  where
    go : (t : Bool) → eqb x.status 0 ≡ t
        → (pending x && pending r && eqb r.counterparty x.counterparty && eqb r.code x.code) ≡ is_ask_twin (book_in s) r
    go true z = rw (e, z, eqb-true x.status 0 z)
    go false z =
        let there : ask_at (book_in s) r.proposer ≡ Some x = e ∙ rw z in
        rw (asked_pending s h r.proposer x low high there).waits (ask_tested s h r x low high there)

module _ (b : Book) where
  -- where no row is a twin of its proposer's ask, an ask has none
  pub none_twin : some_ask_twin b ≡ false → (x : Row) → ask_at b x.proposer ≡ Some x
      → any_passes (alike x.proposer x.counterparty x.code) b.part.rows ≡ false
  unfolding is_ask_twin
  none_twin e x held = none_any _ (each_map (λ r f. go r (alike x.proposer x.counterparty x.code r) refl f) (any_none _ _ e))
    where
      go : (r : Row) (t : Bool) → alike x.proposer x.counterparty x.code r ≡ t → is_ask_twin b r ≡ false
          → alike x.proposer x.counterparty x.code r ≡ false
      go r false g f = g
      go r true g f =
          let own = (alike_true x.proposer x.counterparty x.code r g).proposer in
          let same : is_ask_twin b r ≡ alike x.proposer x.counterparty x.code r = ap (λ (o : Option Row). twin_of o r) (ap (ask_at b) own ∙ held) in
          let z : true ≡ false = sym g ∙ sym same ∙ f in cc

  -- where every ask stands, none has one
  module _ (stand : asks_stand b ≡ true) where
    free_of_twins : (a : ℕ) (x : Row) → 1 ≤ a → a ≤ most_accounts → ask_at b a ≡ Some x
        → any_passes (has_twin b.part.rows) (register_of x ∷ []) ≡ false
    unfolding asks_stand would_register
    free_of_twins a x low high e =
        let accepts : would_register b x ≡ true = ap (ask_stands b) (sym e) ∙ every_up_to (λ a. ask_stands b (ask_at b a)) most_accounts stand a low high in
        passed_14 b (register_of x ∷ []) register refl (clear _ (none_of _ (not-true _ accepts)))

    not_twin : (r : Row) → 1 ≤ r.proposer → r.proposer ≤ most_accounts → (i : ℕ) → r ≡ get_or b.part.rows i no_row → i < length b.part.rows
        → is_ask_twin b r ≡ false
    unfolding is_ask_twin
    not_twin r low high i e inside = go (ask_at b r.proposer) refl
      where
        go : (o : Option Row) → ask_at b r.proposer ≡ o → is_ask_twin b r ≡ false
        go None held = rw held
        go (Some x) held =
            let alone = (first_and_rest (any_none _ _ (free_of_twins r.proposer x low high held))).0 in
            rw held (rw e (each_at no_row i (any_none _ b.part.rows alone) inside))

    pub none_twins : Each (λ r. (1 ≤ r.proposer) × (r.proposer ≤ most_accounts)) b.part.rows → some_ask_twin b ≡ false
    none_twins known =
        none_any (is_ask_twin b)
        (at_each no_row b.part.rows (λ i inside. let k = each_at no_row i known inside in not_twin _ k.0 k.1 i refl inside))

-- so where a row is a twin of an ask, not every ask stands
pub twin_falls : (s : List ℕ) → is_sound s ≡ true → some_ask_twin (book_in s) ≡ true → asks_stand (book_in s) ≡ false
twin_falls s h e =
    test_fails (asks_stand (book_in s)) (not (some_ask_twin (book_in s)))
    (λ stand. rw (none_twins (book_in s) stand (each_map (λ r t. (t.proposer_low, t.proposer_high)) (rows_tabled s h))))
    (rw e)

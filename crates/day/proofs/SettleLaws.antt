-- What an accepted settle writes: the balances of the book at its prices, which are in range, so that each balance is read back from the
-- 8 bytes that it fills.
use Rattle.std.specs.Prelude.{Option, None, Some, is_ok}
use Prim.Native.Nat.{ℕ, ◌≤◌}
use mathlib.Core.Path.{◌≡◌, ap, ◌∙◌}
use mathlib.Core.List.{List, [], ◌∷◌, map, map-map}
use mathlib.Core.Bool.{true}
use native.Mathlib.Omega.{arith}
use lib.ListN.{length, length-map}
use lib.IntN.{ℤ, nat_abs}
use borrow.Author.Tests.{ltb-false}
use Rattle.units.specs.declared.CentsPerMwh.{CentsPerMwh}
use Rattle.rules.specs.declared.Refusal.{Refusal}
use Rattle.rules.specs.Basics.{sum_of, up_to, Each, nil, cons}
use Rattle.rules.specs.Limits.{most_price}
use Rattle.rules.specs.Books.{Book, operator_count}
use Rattle.rules.specs.Requests.{Kind, settle, filled}
use Rattle.rules.specs.Registration.{net_of}
use Rattle.rules.specs.Settlement.{prices_in, settled, balance, results, balances, balance_figure, balance_bytes, figures_in}
use Rattle.rules.specs.Calls.{Call, Settled, drawn_up, call_kind, call_requests, worked_out, settles, refusal, answer, balances_after, ◌one_of◌, input_checks, step, settlement}
use Rattle.rules.specs.Lists.{accepts, accepts_as}
use Rattle.rules.proofs.Basics.Tests.{and_both}
use Rattle.rules.proofs.Basics.Searches.{each_map, any_none, counting-length}
use Rattle.rules.proofs.Basics.Differences.{difference_most}
use Rattle.rules.proofs.Settling.Figures.{figures_back}
use Rattle.rules.proofs.Checks.Clearing.{Clear}
use Rattle.rules.proofs.Checks.Passed.{passed_6_prices}
use Rattle.rules.proofs.Lists.CallLists.{accepts_passed}
use Rattle.rules.proofs.Lists.Batches.{the_kind}
use Rattle.image.specs.Valid.{valid}
use Rattle.image.proofs.Sound.SoundBooks.{book_sound, valid_sound}
use Rattle.image.proofs.Tables.MoneyLaws.{most_money, settled_gained_most, settled_lost_most}

each_made : {A B : Type 0} {P : B → Type 0} (f : A → B) (xs : List A) → ((x : A) → P (f x)) → Each P (map f xs)
each_made f [] h = nil
each_made f (x ∷ xs) h = cons (h x) (each_made f xs h)

module _ (b : Book) (c : Call) where
  -- the prices that settle is lent
  abbrev pub lent_prices : List CentsPerMwh
  lent_prices = prices_in b.setup c.prices

  -- what settle works out on the book
  abbrev pub worked : Settled
  worked =
      record {
        results = results b.setup (net_of b.part.rows) lent_prices b.schedules;
        balances = balances b.setup (net_of b.part.rows) lent_prices b.schedules;
      }

  pub balances_many : length worked.balances ≡ operator_count b.setup
  unfolding balances
  balances_many = length-map (up_to (operator_count b.setup)) _ ∙ counting-length (operator_count b.setup) 1

  worked_go : (k : Kind) → k ≡ settle → settles k b c ≡ Some worked
  unfolding settles drawn_up
  worked_go k e = rw e

  writes_go : (o : Option Refusal) → call_kind c ≡ settle → is_ok (answer b c o).outcome ≡ true
      → (worked_out b c o ≡ Some worked) × ((answer b c o).balances ≡ filled (balance_bytes worked.balances) c.balances)
  unfolding answer worked_out
  writes_go (Some r) e h = let z : ◌≡◌ {A = ℕ} 0 1 = cc in absurd (omega arith)
  writes_go None e h =
      let w = worked_go (call_kind c) e in (w, ap (λ (o : Option Settled). balances_after o c.balances) w)

  module _ (h : accepts_as step (settle ∷ []) b c ≡ true) where
    both : (accepts step b c ≡ true) × (call_kind c one_of (settle ∷ []) ≡ true)
    both = (and_both (accepts step b c) (call_kind c one_of (settle ∷ []))).0 h

    is_settle : call_kind c ≡ settle
    is_settle = the_kind (call_kind c) settle both.1

    pub settle_writes : (settlement b c ≡ Some worked) × ((step b c).balances ≡ filled (balance_bytes worked.balances) c.balances)
    unfolding step settlement
    settle_writes = writes_go (refusal b c) is_settle both.0

    -- every price is in range
    pub prices_in_range : Each (λ p. p.0 ≤ most_price) lent_prices
    prices_in_range =
        let p = accepts_passed b c both.0 in
        let i : Clear (input_checks b c settle (call_requests c)) = rw is_settle at p.input in
        each_map (λ x e. ltb-false _ _ e) (any_none _ lent_prices (passed_6_prices b c (call_requests c) i))

    module _ (v : valid b ≡ true) where
      -- no balance goes beyond what a day can move
      pub balances_small : Each (λ z. nat_abs z ≤ most_money) (map balance_figure worked.balances)
      unfolding balances
      balances_small =
          let ok = book_sound b (valid_sound b v) in
          let js = settled b.setup (net_of b.part.rows) lent_prices b.schedules in
          let figure : ℕ → ℤ = λ o. balance_figure (balance b.setup (net_of b.part.rows) lent_prices js o) in
          rw map-map (each_made {P = λ z. nat_abs z ≤ most_money} figure (up_to (operator_count b.setup)) (λ o.
          difference_most _ _ most_money (settled_gained_most b ok lent_prices prices_in_range o) (settled_lost_most b ok lent_prices prices_in_range o)))

      -- the figures in the buffer sum to what the balances sum to
      pub written_total : sum_of (figures_in (operator_count b.setup) (step b c).balances) ≡ sum_of (map balance_figure worked.balances)
      written_total =
          rw (← balances_many, settle_writes.1) (ap sum_of (figures_back worked.balances c.balances (each_map (λ z m. omega arith) balances_small)))

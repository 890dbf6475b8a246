-- What the tests on rows say: each is a conjunction, taken apart into named facts.
use Prim.Native.Nat.{ℕ, ◌≤◌}
use mathlib.Core.Path.{◌≡◌, refl, sym, ◌∙◌}
use mathlib.Core.List.{List, [], ◌∷◌, ◌++◌}
use mathlib.Core.Bool.{Bool, true, false}
use native.Mathlib.Omega.{arith}
use lib.ListN.{length}
use borrow.Author.Tests.{eqb-true, eqb-false, eq-eqb, not-true}
use Rattle.rules.specs.declared.Row.{Row}
use Rattle.rules.specs.declared.Request.{Request}
use Rattle.rules.specs.Basics.{nth, Each}
use Rattle.rules.specs.Books.{Book, no_row}
use Rattle.rules.specs.Requests.{confirm, withdraw, first_of}
use Rattle.rules.specs.Registration.{pending, proposed, alike, has_twin, of_code, twins, confirms, withdraws, mirrors}
use Rattle.rules.specs.Calls.{confirmed_number, state_checks}
use Rattle.rules.proofs.Basics.Tests.{and_both, or_neither, ◌and◌, no_more, holds_chain}
use Rattle.rules.proofs.Basics.Searches.{any_none, none_any, each_snoc, index_first}
use Rattle.rules.proofs.Checks.Clearing.{Clear}
use Rattle.rules.proofs.Checks.Passed.{passed_16_confirm, passed_16_withdraw, passed_17}

-- a pending row with this proposer, counterparty and code
pub record Alike (p c k : ℕ) (r : Row) : Type 0 where
  pub is_pending : pending r ≡ true
  pub proposer : r.proposer ≡ p
  pub counterparty : r.counterparty ≡ c
  pub code : r.code ≡ k

pub alike_by : (p c k : ℕ) (r : Row) → Alike p c k r → alike p c k r ≡ true
unfolding alike
alike_by p c k r h =
    holds_chain (h.is_pending and eq-eqb _ _ h.proposer and eq-eqb _ _ h.counterparty and eq-eqb _ _ h.code and no_more)

-- a row that is not pending is like no other
pub alike-ended : (p c k : ℕ) (r : Row) → pending r ≡ false → alike p c k r ≡ false
unfolding alike
alike-ended p c k r e = rw e

pub alike_true : (p c k : ℕ) (r : Row) → alike p c k r ≡ true → Alike p c k r
unfolding alike
alike_true p c k r h =
    let x = (and_both _ _).0 h in
    let y = (and_both _ _).0 x.0 in
    let z = (and_both _ _).0 y.0 in
    record {
      is_pending = z.0;
      proposer = eqb-true _ _ z.1;
      counterparty = eqb-true _ _ y.1;
      code = eqb-true _ _ x.1;
    }

-- where no two requests are alike, the first is like none of the others, nor are two of those
pub twins_none : (q : Request) (qs : List Request) → twins (q ∷ qs) ≡ false → Each (λ p. of_code q.other q.code p ≡ false) qs × (twins qs ≡ false)
unfolding twins
twins_none q qs h = let w = (or_neither _ _).0 h in (any_none (of_code q.other q.code) qs w.0, w.1)

-- a request whose row would be like none of the rows, nor like that of another request
pub twin_snoc : (rows : List Row) (q p : Request) → has_twin rows p ≡ false → of_code q.other q.code p ≡ false → has_twin (rows ++ proposed q ∷ []) p ≡ false
twin_snoc rows q p none differ =
    none_any _ (each_snoc (any_none (alike p.account p.other p.code) rows none) (go (alike p.account p.other p.code (proposed q)) refl))
  where
    go : (t : Bool) → alike p.account p.other p.code (proposed q) ≡ t → t ≡ false
    go true w =
        let a = alike_true _ _ _ (proposed q) w in
        sym (holds_chain (eq-eqb _ _ (sym a.counterparty) and eq-eqb _ _ (sym a.code) and no_more)) ∙ differ
    go false w = refl

-- side opposite, hours and quantity equal
pub record Mirrored (q : Request) (r : Row) : Type 0 where
  pub side : r.side ≡ q.side → ⊥
  pub first : r.first ≡ q.first
  pub last : r.last ≡ q.last
  pub quantity : r.quantity.0 ≡ q.quantity.0

pub mirrors_true : (q : Request) (r : Row) → mirrors q r ≡ true → Mirrored q r
unfolding mirrors
mirrors_true q r h =
    let x = (and_both _ _).0 h in
    let y = (and_both _ _).0 x.0 in
    let z = (and_both _ _).0 y.0 in
    record {
      side = eqb-false _ _ (not-true _ z.0);
      first = eqb-true _ _ z.1;
      last = eqb-true _ _ y.1;
      quantity = eqb-true _ _ x.1;
    }

-- the row that an accepted confirm names: its number, its parties and code, its terms
pub record Confirmed (b : Book) (q : Request) : Type 0 where
  pub low : 1 ≤ confirmed_number b q
  pub high : confirmed_number b q ≤ length b.part.rows
  pub row : Alike q.other q.account q.code (nth b.part.rows (confirmed_number b q) no_row)
  pub terms : Mirrored q (nth b.part.rows (confirmed_number b q) no_row)

pub passed_confirm : (b : Book) (qs : List Request) → Clear (state_checks b confirm qs) → Confirmed b (first_of qs)
unfolding confirms
passed_confirm b qs h =
    let q : Request = first_of qs in
    let (i, e) = passed_16_confirm b qs h in
    let f = index_first (alike q.other q.account q.code) no_row b.part.rows i e in
    record {
      low = rw e (omega arith);
      high = rw e f.inside;
      row = rw e (alike_true _ _ _ _ f.passes);
      terms = mirrors_true _ _ (passed_17 b qs h);
    }

-- the row that an accepted withdraw ends
pub passed_withdraw : (b : Book) (qs : List Request) → Clear (state_checks b withdraw qs)
    → let q = first_of qs in
    (pending (nth b.part.rows q.number no_row) ≡ true) × ((nth b.part.rows q.number no_row).proposer ≡ q.account)
unfolding withdraws
passed_withdraw b qs h =
    let x = (and_both _ _).0 (passed_16_withdraw b qs h) in
    (x.0, eqb-true _ _ x.1)

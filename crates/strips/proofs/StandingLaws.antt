-- A row that stands and the requests of a strip: whether it is alike one of them.
use Prim.Native.Nat.{ℕ}
use mathlib.Core.Path.{◌≡◌, sym, ap, ◌∙◌}
use mathlib.Core.List.{List}
use mathlib.Core.Bool.{Bool, false}
use lib.Dec.{eqb}
use borrow.Author.Tests.{eqb-true, eq-eqb}
use Rattle.rules.specs.declared.Row.{Row}
use Rattle.rules.specs.declared.Request.{Request}
use Rattle.rules.specs.Basics.{any_passes, Each}
use Rattle.rules.specs.Registration.{alike, has_twin, of_code}
use Rattle.rules.proofs.Basics.Tests.{test_same}
use Rattle.rules.proofs.Basics.Searches.{each_any, each_map, none_any, any_cong, any_swap}
use Rattle.book.proofs.WaitLaws.{others_unlike, ended_unlike, own_alike}
use Rattle.strips.specs.Ready.{strip_requests, proposer, alike_among}

-- equality is the same from either side
eqb_turned : (a b : ℕ) → eqb a b ≡ eqb b a
eqb_turned a b = test_same _ _ (λ e. eq-eqb b a (sym (eqb-true a b e))) (λ e. eq-eqb a b (sym (eqb-true b a e)))

-- a row of another account is alike none of the requests, nor is one that is not pending
pub others_none : (r : Row) (account x : ℕ) (qs : List Request) → x ≡ r.proposer → (x ≡ account → ⊥) → false ≡ alike_among account qs r
others_none r account x qs e n =
    sym (none_any _ (each_any qs (λ q. sym (others_unlike r account q.other q.code x e n))))

pub ended_none : (r : Row) (account x : ℕ) (qs : List Request) → x ≡ r.status → (x ≡ 1 → ⊥) → false ≡ alike_among account qs r
ended_none r account x qs e n =
    sym (none_any _ (each_any qs (λ q. sym (ended_unlike r account q.other q.code x e n))))

-- a pending row of the account is alike those of its counterparty and code
pub own_among : (r : Row) (account : ℕ) (qs : List Request) → r.status ≡ 1 → r.proposer ≡ account
    → any_passes (of_code r.counterparty r.code) qs ≡ alike_among account qs r
own_among r account qs e d =
    any_cong _ _ (each_any qs (λ q.
    rw (eqb_turned q.other r.counterparty, eqb_turned q.code r.code) (own_alike r account q.other q.code e d)))

-- some request has a twin among the rows exactly where some row is alike one of the requests, which all have that account
standing_twin : (rows : List Row) (qs : List Request) (account : ℕ) → Each (λ q. q.account ≡ account) qs
    → any_passes (alike_among account qs) rows ≡ any_passes (has_twin rows) qs
standing_twin rows qs account own =
    any_swap (λ r q. alike account q.other q.code r) rows qs
    ∙ any_cong _ (has_twin rows) (each_map (λ q e. ap (λ (a : ℕ). any_passes (alike a q.other q.code) rows) (sym e)) own)

-- what was found of the account of the first row
pub standing_found : (rows : List Row) (s : List ℕ) (n : ℕ) → Each (λ q. q.account ≡ proposer s n) (strip_requests s n) → {account : ℕ} {found : Bool}
    → account ≡ proposer s n → found ≡ any_passes (alike_among account (strip_requests s n)) rows
    → found ≡ any_passes (has_twin rows) (strip_requests s n)
standing_found rows s n own e f = (rw e at f) ∙ standing_twin rows (strip_requests s n) _ own

-- Twins by keys: two rows at different places have the same key where both are pending and alike, so keys all apart are rows with no twins.
use Prim.Native.Nat.{ℕ, zero, suc, ◌+◌, ◌*◌, ◌≤◌, ◌<◌}
use mathlib.Core.Path.{◌≡◌, refl, sym, ◌∙◌}
use mathlib.Core.Bool.{Bool, true, false, ◌&&◌, ◌||◌, or_assoc, and-false}
use mathlib.Core.List.{List, ◌∷◌}
use native.Mathlib.Nat.{add-zero, zero-add, suc-add}
use native.Mathlib.Numerals.{add-one}
use native.Mathlib.Omega.{arith}
use lib.ListN.{length, get_or, set, take, drop}
use lib.Seq.{get_or-set_same, get_or-set_other}
use lib.Dec.{ltb, eqb}
use borrow.Author.Count.{below_more}
use borrow.Author.Tests.{ltb-true, ltb-false, eqb-true, eqb-false, eq-eqb}
use Rattle.wire.specs.Numbers.{Bytes}
use Rattle.wire.proofs.NumberLaws.{number_at_small}
use Rattle.rules.specs.declared.Row.{Row}
use Rattle.rules.specs.Basics.{any_passes}
use Rattle.rules.specs.Registration.{pending, alike}
use Rattle.rules.proofs.Basics.Tests.{test_same, and_both, or_neither}
use Rattle.rules.proofs.Rows.RowTests.{alike_by, alike_true}
use Rattle.image.specs.Image.{row_in}
use Rattle.image.specs.Valid.{no_twins}
use Rattle.image.specs.Cells.{rows_from}
use Rattle.image.specs.Layout.{row_width}
use Rattle.image.proofs.Reading.RowBytes.{row_at}
use Rattle.image.proofs.Reading.RowsFrom.{rows_done, rows_step}
use Rattle.audit.specs.declared.twins.Key.{Key}
use Rattle.audit.specs.declared.twins.Keys.{Keys}
use Rattle.audit.specs.Twins.{pair_of, key_of, key_at, mark_of, same_key, key_among, keys_apart, Keyed}

-- ---- the loops over keys

pub among_done : (found : Bool) (keys : Keys) (x : Key) (k n : ℕ) → n ≤ 0 → (found || key_among keys x k n) ≡ found
unfolding key_among
among_done true keys x k n h = refl
among_done false keys x k zero h = refl
among_done false keys x k (suc n) h = absurd (omega arith)

pub among_step : (found : Bool) (keys : Keys) (x : Key) (k n m : ℕ) → n ≡ m + 1
    → (found || key_among keys x k n) ≡ ((found || same_key (key_at keys k) x) || key_among keys x (k + 1) m)
unfolding key_among
among_step found keys x k n m e = rw (e, add-one m) (sym (or_assoc found _ _))

pub apart_done : (keys : Keys) (k n : ℕ) → n ≤ 0 → keys_apart keys k n ≡ true
unfolding keys_apart
apart_done keys k zero h = refl
apart_done keys k (suc n) h = absurd (omega arith)

-- the key at k is among those after it
pub apart_found : (keys : Keys) (k n m : ℕ) → n ≡ m + 1 → key_among keys (key_at keys k) (k + 1) m ≡ true → keys_apart keys k n ≡ false
unfolding keys_apart
apart_found keys k n m e h = rw (e, add-one m, keys_apart, h)

-- and where it is not, those after it are left
pub apart_next : (keys : Keys) (k n m : ℕ) → n ≡ m + 1 → key_among keys (key_at keys k) (k + 1) m ≡ false
    → keys_apart keys k n ≡ keys_apart keys (k + 1) m
unfolding keys_apart
apart_next keys k n m e h = rw (e, add-one m, keys_apart, h)

-- two among the last are two among all
pub apart_before : (keys : Keys) (j k m : ℕ) → keys_apart keys (k + j) m ≡ false → keys_apart keys k (j + m) ≡ false
unfolding keys_apart
apart_before keys zero k m h = rw (zero-add m, ← add-zero k) h
apart_before keys (suc j) k m h =
    let e : k + suc j ≡ k + 1 + j = omega arith in
    rw (suc-add, keys_apart, apart_before keys j (k + 1) m (rw e at h), and-false)

-- ---- marks

-- the keys from i on, before n, have each left a 1 at their mark
pub record Marked (keys : Keys) (i n : ℕ) (seen : List ℕ) : Type 0 where
  pub mark_at : (k : ℕ) → i ≤ k → k < n → get_or seen (mark_of (key_at keys k)) 0 ≡ 1

pub none_marked : (keys : Keys) (n : ℕ) (seen : List ℕ) → Marked keys n n seen
none_marked keys n seen = record { mark_at = λ k l b. absurd (omega arith) }

-- a 1 is put at the mark of the key at i
pub mark-more : (keys : Keys) (i j n : ℕ) (seen : List ℕ) (m : ℕ) → j ≡ i + 1 → m ≡ mark_of (key_at keys i)
    → m < length seen → Marked keys j n seen → Marked keys i n (set seen m 1)
mark-more keys i j n seen m y e l h = record { mark_at = λ k a b. go k a b (ltb i k) refl (eqb (at k) m) refl }
  where
    at : ℕ → ℕ
    at k = mark_of (key_at keys k)

    go : (k : ℕ) → i ≤ k → k < n → (t : Bool) → ltb i k ≡ t → (u : Bool) → eqb (at k) m ≡ u → get_or (set seen m 1) (at k) 0 ≡ 1
    go k a b t f true g = rw (eqb-true (at k) m g) (get_or-set_same seen m 1 0 l)
    go k a b true f false g = get_or-set_other seen m (at k) 1 0 (eqb-false _ _ g) ∙ h.mark_at k (omega (arith, ltb-true i k f)) b
    go k a b false f false g = let d : i ≡ k = omega (arith, ltb-false i k f) in absurd (eqb-false _ _ g (sym (rw d at e)))

-- keys that are the same have the same mark
same_mark : (x y : Key) → same_key x y ≡ true → mark_of x ≡ mark_of y
unfolding mark_of
same_mark x y e =
    let w = (and_both (eqb x.code y.code) (eqb x.pair y.pair)).0 e in rw (eqb-true x.code y.code w.0, eqb-true x.pair y.pair w.1)

-- where 0 stands at a key's mark, it is not among those that have left one
pub unmarked : (keys : Keys) (i n : ℕ) (seen : List ℕ) (x : Key) → Marked keys i n seen → get_or seen (mark_of x) 0 ≡ 0
    → (k m : ℕ) → i ≤ k → k + m ≡ n → key_among keys x k m ≡ false
unfolding key_among
unmarked keys i n seen x h z k zero a e = refl
unmarked keys i n seen x h z k (suc m) a e =
    (or_neither _ _).1 (other _ refl, unmarked keys i n seen x h z (k + 1) m (omega arith) (omega arith))
  where
    other : (t : Bool) → same_key (key_at keys k) x ≡ t → t ≡ false
    other false f = refl
    other true f =
        let o : get_or seen (mark_of x) 0 ≡ 1 = rw (same_mark (key_at keys k) x f) at (h.mark_at k a (omega arith)) in absurd (omega arith)

-- ---- keys filled in

pub no_keys : (s : List ℕ) (at : ℕ) (keys : Keys) → Keyed s at 0 keys
no_keys s at keys = record { code_at = λ k h. absurd (omega arith); pair_at = λ k h. absurd (omega arith) }

-- what stands at each place below i, and what is put at i, stands at each place below i + 1
filled : (f : ℕ → ℕ) (xs : List ℕ) (i v : ℕ) → i < length xs → v ≡ f i → ((k : ℕ) → k < i → get_or xs k 0 ≡ f k)
    → (k : ℕ) → k < i + 1 → get_or (set xs i v) k 0 ≡ f k
filled f xs i v l e h =
    below_more _ i (λ k b. get_or-set_other xs i k v 0 (λ d. omega arith) ∙ h k b) (get_or-set_same xs i v 0 l ∙ e)

pub keys_more : (s : List ℕ) (at i : ℕ) (keys : Keys) (x : Key) → i < length keys.codes → i < length keys.pairs
    → x.code ≡ (row_in (take row_width (drop (at + row_width * i) s))).code
    → x.pair ≡ pair_of i (row_in (take row_width (drop (at + row_width * i) s)))
    → Keyed s at i keys → Keyed s at (i + 1) (record { codes = set keys.codes i x.code; pairs = set keys.pairs i x.pair })
keys_more s at i keys x hc hp ec ep h =
    record {
      code_at = filled (λ k. (row_in (take row_width (drop (at + row_width * k) s))).code) keys.codes i x.code hc ec h.code_at;
      pair_at = filled (λ k. pair_of k (row_in (take row_width (drop (at + row_width * k) s)))) keys.pairs i x.pair hp ep h.pair_at;
    }

-- ---- the same key

-- both accounts are bytes
pub record Parties (r : Row) : Type 0 where
  pub proposer_byte : r.proposer < 256
  pub counterparty_byte : r.counterparty < 256

pub parties : {s : List ℕ} → Bytes s → (at : ℕ) → Parties (row_in (take row_width (drop at s)))
parties {s} h at =
    rw (row_at s at) (record { proposer_byte = number_at_small h at 1; counterparty_byte = number_at_small h (at + 1) 1 })

module _ (x r : Row) (k i : ℕ) (apart : k ≡ i → ⊥) (px : Parties x) (pr : Parties r) where
  pair_alike : (t u : Bool) → pending x ≡ t → pending r ≡ u → pair_of k x ≡ pair_of i r
      → (pending r ≡ true) × (pending x ≡ true) × (x.proposer ≡ r.proposer) × (x.counterparty ≡ r.counterparty)
  pair_alike true true e f h =
      let g : x.proposer * 256 + x.counterparty ≡ r.proposer * 256 + r.counterparty = rw (e, f) at h in
      let bx = px.counterparty_byte in
      let br = pr.counterparty_byte in
      (f, e, omega arith, omega arith)
  pair_alike true false e f h =
      let g : x.proposer * 256 + x.counterparty ≡ 65536 + i = rw (e, f) at h in absurd (omega (arith, px.proposer_byte, px.counterparty_byte))
  pair_alike false true e f h =
      let g : 65536 + k ≡ r.proposer * 256 + r.counterparty = rw (e, f) at h in absurd (omega (arith, pr.proposer_byte, pr.counterparty_byte))
  pair_alike false false e f h = let g : 65536 + k ≡ 65536 + i = rw (e, f) at h in absurd (apart (omega arith))

  pub same_where : (eqb x.code r.code && eqb (pair_of k x) (pair_of i r)) ≡ (pending r && alike r.proposer r.counterparty r.code x)
  same_where = test_same _ _ there back
    where
      there : (eqb x.code r.code && eqb (pair_of k x) (pair_of i r)) ≡ true → (pending r && alike r.proposer r.counterparty r.code x) ≡ true
      there h =
          let w = (and_both (eqb x.code r.code) (eqb (pair_of k x) (pair_of i r))).0 h in
          let y = pair_alike (pending x) (pending r) refl refl (eqb-true _ _ w.1) in
          (and_both _ _).1 (
            y.0,
            alike_by _ _ _ x (record { is_pending = y.1; proposer = y.2; counterparty = y.3; code = eqb-true _ _ w.0 }),
          )

      back : (pending r && alike r.proposer r.counterparty r.code x) ≡ true → (eqb x.code r.code && eqb (pair_of k x) (pair_of i r)) ≡ true
      back h =
          let w = (and_both (pending r) (alike r.proposer r.counterparty r.code x)).0 h in
          let y = alike_true _ _ _ x w.1 in
          (and_both _ _).1 (eq-eqb _ _ y.code, eq-eqb (pair_of k x) (pair_of i r) (rw (w.0, y.is_pending, y.proposer, y.counterparty)))

-- ---- keys apart are rows with no twins

-- a test before a search is a test before each
any_each : {A : Type 0} (b : Bool) (p : A → Bool) (x : A) (xs : List A) → (b && any_passes p (x ∷ xs)) ≡ ((b && p x) || (b && any_passes p xs))
unfolding any_passes
any_each false p x xs = refl
any_each true p x xs = go (p x) refl
  where
    go : (t : Bool) → p x ≡ t → any_passes p (x ∷ xs) ≡ (p x || any_passes p xs)
    go true e = rw (e, any_passes)
    go false e = rw (e, any_passes)

module _ {s : List ℕ} (bytes : Bytes s) (at n : ℕ) (keys : Keys) (keyed : Keyed s at n keys) where
  abbrev row : ℕ → Row
  row k = row_in (take row_width (drop (at + row_width * k) s))

  next : (k : ℕ) → at + row_width * k + row_width ≡ at + row_width * (k + 1)
  next k = omega arith

  among_rows : (i k m : ℕ) → i < k → k + m ≡ n
      → key_among keys (key_of i (row i)) k m
      ≡ (pending (row i) && any_passes (alike (row i).proposer (row i).counterparty (row i).code) (rows_from s (at + row_width * k) m))
  unfolding key_among any_passes
  among_rows i k zero l e = rw (rows_done s (at + row_width * k) 0 (omega arith)) (sym (and-false (pending (row i))))
  among_rows i k (suc m) l e =
      let h : k < n = omega arith in
      rw (keyed.code_at k h, keyed.pair_at k h, same_where (row k) (row i) k i (λ d. omega arith) (parties bytes (at + row_width * k)) (parties bytes (at + row_width * i)), among_rows i (k + 1) m (omega arith) (omega arith), rows_step s (at + row_width * k) (suc m) m (omega arith), next k)
      (sym (any_each (pending (row i)) (alike (row i).proposer (row i).counterparty (row i).code) (row k) (rows_from s (at + row_width * (k + 1)) m)))

  apart_rows : (k m : ℕ) → k + m ≡ n → keys_apart keys k m ≡ no_twins (rows_from s (at + row_width * k) m)
  unfolding keys_apart no_twins
  apart_rows k zero e = rw (rows_done s (at + row_width * k) 0 (omega arith))
  apart_rows k (suc m) e =
      let h : k < n = omega arith in
      rw (keyed.code_at k h, keyed.pair_at k h, among_rows k (k + 1) m (omega arith) (omega arith), rows_step s (at + row_width * k) (suc m) m (omega arith), next k, apart_rows (k + 1) m (omega arith))

  pub keys_apart_rows : keys_apart keys 0 n ≡ no_twins (rows_from s at n)
  keys_apart_rows = let e : at + row_width * 0 ≡ at = omega arith in rw e at (apart_rows 0 n (omega arith))

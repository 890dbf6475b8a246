-- What an accepted call passed: no check of its ranked list applies, so each test of the list is false. A law for each number
-- says that of its test, at the kinds to which the number applies.
use Rattle.std.specs.Prelude.{if◌then◌else◌, Option, None, Some}
use Prim.Native.Nat.{ℕ, ◌+◌, ◌*◌, ◌^◌, ◌≤◌, ◌<◌}
use mathlib.Core.Path.{◌≡◌, refl, sym, ap, ◌∙◌}
use mathlib.Core.Logic.{◌⊎◌, inl, inr}
use mathlib.Core.List.{List, [], ◌∷◌, ◌++◌, map}
use mathlib.Core.Bool.{Bool, true, false, not, ◌&&◌, ◌||◌}
use native.Mathlib.Omega.{arith}
use lib.ListN.{length, get_or, length-map}
use lib.Dec.{eqb, ltb}
use borrow.Author.Tests.{eqb-true, eqb-false, leb-true, leb-false, ltb-false, not-false}
use Rattle.wire.proofs.SlotLaws.{length-chunks}
use Rattle.rules.specs.declared.Counts.{Counts}
use Rattle.rules.specs.declared.Request.{Request}
use Rattle.rules.specs.declared.Refusal.{Refusal}
use Rattle.rules.specs.declared.Refusal.TheVariants.{Unreadable, UnknownKind, OutOfRange, SameAccount, BufferShort}
use Rattle.rules.specs.Basics.{any_passes, every, nth, counting, up_to, bit, Each, nil, cons}
use Rattle.rules.specs.Limits.{most_price, most_rows, most_strip, most_schedules}
use Rattle.rules.specs.Verdicts.{Check, ◌⇒◌, ◌⇒↑◌, applies, accepted, refused}
use Rattle.rules.specs.Books.{Part, Book, with_asks, no_row, ask_at, no_asks, operator_count, counts_of}
use Rattle.rules.specs.Requests.{Kind, register, confirm, withdraw, guarantee, open_batch, undo, keep, close_gate, schedule, settle, strip, ask, commit, kind_number, kind_of, is_single, wanted_map, wanted_length, map_of, field_in, request_of, unreadable, map_check, read_checks, is_strip, head_length, row_length, strip_count, strip_rows, row_checks, strip_checks, requests_of, first_of, field_count, bits, in_range, faulty_field, faulty_bit, faulty_bit_among, same_accounts}
use Rattle.rules.specs.Registration.{proposed, stands_with, has_twin, twins, confirms, withdraws, mirrors, broken_hour, covered}
use Rattle.rules.specs.Settlement.{price_count, prices_in}
use Rattle.rules.specs.Strips.{IsRegister}
use Rattle.rules.specs.Calls.{Call, call_kind, call_requests, changed, cleared_by, next, given, confirmed_number, ◌one_of◌, adding, checked_as, phase_of, exposed_operator, bytes_checks, input_checks, state_checks, checks, refusal, answer, step}
use Rattle.rules.proofs.Basics.Tests.{within_true, or_neither, and_spared}
use Rattle.rules.proofs.Basics.Searches.{some_of, none_of, every_each, counted_has, find_none, each_nth, each_map, each_both, each_image}
use Rattle.rules.proofs.Checks.KindTables.{single_kind}
use Rattle.rules.proofs.Checks.Clearing.{never_both, Clear, clear, clear_split, clear_each, clear_at, spared, spared↑, spared_for, spared↑_for}

-- ---- 2 to 5, of the record itself

module _ (s : List ℕ) (h : Clear (read_checks s)) where
  pub passed_2 : unreadable s ≡ false
  unfolding read_checks
  passed_2 = spared _ _ (clear_at 0 (read_checks s) h)

  pub passed_3 : is_single (field_in s 0) ≡ true
  unfolding read_checks
  passed_3 = not-false _ (spared _ _ (clear_at 1 (read_checks s) h))

  pub passed_4 : map_of s ≡ wanted_map (field_in s 0)
  unfolding read_checks
  passed_4 = eqb-true _ _ (not-false _ (spared _ _ (clear_at 2 (read_checks s) h)))

  pub passed_5_record : length s ≡ wanted_length (field_in s 0)
  unfolding read_checks
  passed_5_record = eqb-true _ _ (not-false _ (spared _ _ (clear_at 3 (read_checks s) h)))

-- the kind of a number from 1 to 13 has that number
numbered : every (λ n. eqb (kind_number (kind_of n)) n) (up_to 13) ≡ true
unfolding counting every
numbered = refl

pub kind_number_lem : (n : ℕ) → is_single n ≡ true → kind_number (kind_of n) ≡ n
kind_number_lem n h =
    let (low, (high, _)) = single_kind n h in
    eqb-true _ _ (counted_has 13 1 n (every_each (λ n. eqb (kind_number (kind_of n)) n) (up_to 13) numbered) low (omega arith))

-- ---- 2 to 5 and 21, of a strip, and 2 to 4 of its rows

module _ (s : List ℕ) (h : Clear (strip_checks s)) where
  pub strip_readable : unreadable s ≡ false
  unfolding strip_checks
  strip_readable = spared _ _ h.0

  pub strip_mapped : map_of s ≡ wanted_map (kind_number strip)
  unfolding strip_checks
  strip_mapped = eqb-true _ _ (not-false _ (spared _ _ h.1.0))

  pub strip_sized : length s ≡ head_length + row_length * strip_count s
  unfolding strip_checks
  strip_sized = eqb-true _ _ (not-false _ (spared _ _ h.1.1.0))

  pub passed_21 : (1 ≤ strip_count s) × (strip_count s ≤ most_strip)
  unfolding strip_checks
  passed_21 = (within_true 1 (strip_count s) most_strip).0 (not-false _ (spared _ _ h.1.1.1.0))

  rows_clear : Clear (row_checks (strip_rows s))
  unfolding strip_checks
  rows_clear = h.1.1.1.1

  pub strip_rows_read : Each IsRegister (strip_rows s)
  unfolding row_checks
  strip_rows_read =
      let kinds : List Check = map (λ r. not (eqb (field_in r 0) (kind_number register)) ⇒ UnknownKind) (strip_rows s) in
      let maps : List Check = map (map_check (kind_number register)) (strip_rows s) in
      let w = clear_split (map (λ r. unreadable r ⇒ Unreadable) (strip_rows s) ++ kinds) maps rows_clear in
      let v = clear_split (map (λ r. unreadable r ⇒ Unreadable) (strip_rows s)) kinds w.0 in
      each_both (λ r e f. record { of_kind = eqb-true _ _ (not-false _ (spared _ _ e)); mapped = eqb-true _ _ (not-false _ (spared _ _ f)) })
      (clear_each _ (strip_rows s) v.1) (clear_each _ (strip_rows s) w.1)

  pub strip_rows_length : length (strip_rows s) ≡ strip_count s
  unfolding strip_rows
  strip_rows_length = length-chunks row_length (strip_count s) _

-- ---- the requests that a call brings

-- the kind of its requests: those of a strip are registers
abbrev pub request_kind : Kind → ℕ
request_kind k = if k one_of (strip ∷ []) then kind_number register else kind_number k

-- one or more, all of the kind; one where it is no strip
pub record Asked (k : Kind) (qs : List Request) : Type 0 where
  pub several : 1 ≤ length qs
  pub kinds : Each (λ q. q.kind ≡ request_kind k) qs
  pub alone : k one_of (strip ∷ []) ≡ false → qs ≡ first_of qs ∷ []

-- what all of them have, the first has
pub first_has {κ} : {P : Request → Type κ} {k : Kind} {qs : List Request} → Asked k qs → Each P qs → P (first_of qs)
first_has a e = each_nth (request_of []) 1 e (omega arith) a.several

pub first_kind : {k : Kind} {qs : List Request} → Asked k qs → (first_of qs).kind ≡ request_kind k
first_kind a = first_has a a.kinds

-- a request of a single record has the number of its kind
request_kind_lem : (k : Kind) → k one_of (strip ∷ []) ≡ false → request_kind k ≡ kind_number k
request_kind_lem k e = rw e

-- a request with the fields of a register
abbrev pub TradeFields : Request → Type 0
TradeFields q = wanted_map q.kind ≡ wanted_map (kind_number register)

fields_of_lem : (k : Kind) → k one_of (ask ∷ adding) ≡ true → wanted_map (request_kind k) ≡ wanted_map (kind_number register)
fields_of_lem register e = refl
fields_of_lem strip e = refl
fields_of_lem ask e = refl
fields_of_lem commit e = refl
fields_of_lem confirm e = refl
fields_of_lem withdraw e = cc
fields_of_lem guarantee e = cc
fields_of_lem open_batch e = cc
fields_of_lem undo e = cc
fields_of_lem keep e = cc
fields_of_lem close_gate e = cc
fields_of_lem schedule e = cc
fields_of_lem settle e = cc

-- such are the requests of a call that adds rows or asks for one
pub trade_fields : (k : Kind) {qs : List Request} → k one_of (ask ∷ adding) ≡ true → Asked k qs → Each TradeFields qs
trade_fields k e a = each_map (λ q same. ap wanted_map same ∙ fields_of_lem k e) a.kinds

-- a single record brings one request
pub single_requests : (s : List ℕ) → is_strip s ≡ false → requests_of s ≡ request_of s ∷ []
unfolding requests_of
single_requests s e = rw e

pub strip_requests_lem : (s : List ℕ) → is_strip s ≡ true → requests_of s ≡ map request_of (strip_rows s)
unfolding requests_of
strip_requests_lem s e = rw e

single_asked : (s : List ℕ) → is_strip s ≡ false → Clear (read_checks s) → Asked (kind_of (field_in s 0)) (requests_of s)
unfolding request_of
single_asked s e h =
    let number = kind_number_lem (field_in s 0) (passed_3 s h) in
    let single : kind_of (field_in s 0) one_of (strip ∷ []) ≡ false = rw (number, e) in
    let same : request_kind (kind_of (field_in s 0)) ≡ field_in s 0 = request_kind_lem (kind_of (field_in s 0)) single ∙ number in
    rw (single_requests s e) (record { several = omega arith; kinds = cons (sym same) nil; alone = λ _. refl })

strip_asked : (s : List ℕ) → is_strip s ≡ true → Clear (strip_checks s) → Asked (kind_of (field_in s 0)) (requests_of s)
unfolding request_of
strip_asked s e h =
    let n : length (map request_of (strip_rows s)) ≡ strip_count s = length-map (strip_rows s) request_of ∙ strip_rows_length s h in
    rw (strip_requests_lem s e, eqb-true (field_in s 0) (kind_number strip) e)
    (record { several = omega (arith, n, (passed_21 s h).0); kinds = each_image request_of (each_map (λ r w. w.of_kind) (strip_rows_read s h)); alone = λ never. cc })

-- bytes that are not refused bring requests of their kind
pub bytes_asked : (s : List ℕ) → Clear (bytes_checks s) → Asked (kind_of (field_in s 0)) (requests_of s)
bytes_asked s h = go (is_strip s) refl h
  where
    go : (t : Bool) → is_strip s ≡ t → Clear (if t then strip_checks s else read_checks s) → Asked (kind_of (field_in s 0)) (requests_of s)
    go true e h = strip_asked s e h
    go false e h = single_asked s e h

-- bytes that are not refused can be read, and say the number of their kind
pub bytes_kind : (s : List ℕ) → Clear (bytes_checks s) → (unreadable s ≡ false) × (kind_number (kind_of (field_in s 0)) ≡ field_in s 0)
bytes_kind s h = go (is_strip s) refl h
  where
    go : (t : Bool) → is_strip s ≡ t → Clear (if t then strip_checks s else read_checks s)
        → (unreadable s ≡ false) × (kind_number (kind_of (field_in s 0)) ≡ field_in s 0)
    go true e h = (strip_readable s h, rw (eqb-true (field_in s 0) (kind_number strip) e))
    go false e h = (passed_2 s h, kind_number_lem (field_in s 0) (passed_3 s h))

-- under 3 bytes, bit 0 clear, or a bit of 13 to 15 set: none of these
pub readable : (s : List ℕ) → unreadable s ≡ false → (3 ≤ length s) × (bit (map_of s) 0 ≡ true) × (map_of s < 2 ^ 13)
unfolding unreadable
readable s h =
    let n = (or_neither _ _).0 h in
    let m = (or_neither _ _).0 n.0 in
    (ltb-false _ _ m.0, not-false _ m.1, leb-false _ _ n.1)

-- ---- 5 to 10, of the input beside the book

-- no field is at fault: each that stands is in range
pub field_in_range : (n : Counts) (q : Request) (k : ℕ) → faulty_bit n q ≡ None → k < field_count
    → bit (wanted_map q.kind) k ≡ true → get_or (in_range n q) k true ≡ true
unfolding faulty_bit faulty_field bits
field_in_range n q k h l e =
    not-false _ (and_spared _ _ e (counted_has field_count 0 k (find_none (faulty_field n q) bits h) (omega arith) l))

-- the accounts differ, where the kind has two
pub two_accounts : (q : Request) → same_accounts q ≡ false → bit (wanted_map q.kind) 2 ≡ true → q.account ≡ q.other → ⊥
unfolding same_accounts
two_accounts q h e = eqb-false _ _ (and_spared _ _ e h)

-- one of a call's requests is not at fault: it has the proposer, and its fields are in range
pub among_in_range : (n : Counts) (proposer : ℕ) (q : Request) → faulty_bit_among n proposer q ≡ None → (q.account ≡ proposer) × (faulty_bit n q ≡ None)
unfolding faulty_bit_among
among_in_range n proposer q h = go (eqb q.account proposer) refl h
  where
    go : (t : Bool) → eqb q.account proposer ≡ t → (if t then faulty_bit n q else Some 1) ≡ None → (q.account ≡ proposer) × (faulty_bit n q ≡ None)
    go true e h = (eqb-true _ _ e, h)
    go false e h = let z : ◌≡◌ {A = ℕ} 0 1 = cc in absurd (omega arith)

module _ (b : Book) (c : Call) (qs : List Request) where
  -- the price table has its length
  pub passed_5 : Clear (input_checks b c settle qs) → length c.prices ≡ 4 * price_count b.setup
  unfolding input_checks
  passed_5 h = eqb-true _ _ (not-false _ (spared _ _ h.0))

  abbrev ranges : List Check
  ranges = map (λ q. faulty_bit_among (counts_of b.setup) (first_of qs).account q ⇒↑ OutOfRange) qs

  abbrev accounts : List Check
  accounts = map (λ q. same_accounts q ⇒ SameAccount) qs

  abbrev prices : Kind → Check
  prices k = k one_of (settle ∷ []) && any_passes (λ p. ltb most_price p.0) (prices_in b.setup c.prices) ⇒ OutOfRange 12

  abbrev buffers : Kind → List Check
  buffers k =
      (k one_of (settle ∷ [])
      && (ltb (length c.results) (length b.schedules) || ltb (length c.balances) (8 * operator_count b.setup))
      ⇒ BufferShort)
      ∷ []

  -- no field is at fault, then no price, then no pair of accounts, then no buffer
  parts : (k : Kind) → Clear (input_checks b c k qs) → Clear ranges × ((applies (prices k) ≡ None) × (Clear accounts × Clear (buffers k)))
  unfolding input_checks
  parts k h =
      let w = clear_split (ranges ++ prices k ∷ accounts) (buffers k) h.1 in
      let v = clear_split ranges (prices k ∷ accounts) w.0 in
      (v.0, (v.1.0, (v.1.1, w.1)))

  among : (k : Kind) → Clear (input_checks b c k qs) → Each (λ q. (q.account ≡ (first_of qs).account) × (faulty_bit (counts_of b.setup) q ≡ None)) qs
  among k h = each_map (λ q e. among_in_range _ _ q (spared↑ _ _ e)) (clear_each _ qs (parts k h).0)

  -- every field is in range
  pub passed_6 : (k : Kind) → Clear (input_checks b c k qs) → Each (λ q. faulty_bit (counts_of b.setup) q ≡ None) qs
  passed_6 k h = each_map (λ q e. e.1) (among k h)

  -- all requests have one account
  pub passed_6_proposer : (k : Kind) → Clear (input_checks b c k qs) → Each (λ q. q.account ≡ (first_of qs).account) qs
  passed_6_proposer k h = each_map (λ q e. e.0) (among k h)

  -- and every price
  pub passed_6_prices : Clear (input_checks b c settle qs) → any_passes (λ p. ltb most_price p.0) (prices_in b.setup c.prices) ≡ false
  passed_6_prices h = spared _ _ (parts settle h).1.0

  pub passed_7 : (k : Kind) → Clear (input_checks b c k qs) → Each (λ q. same_accounts q ≡ false) qs
  passed_7 k h = each_map (λ q e. spared _ _ e) (clear_each _ qs (parts k h).1.1.0)

  -- what is written fits the buffers
  pub passed_10 : Clear (input_checks b c settle qs)
      → (length b.schedules ≤ length c.results) × (8 * operator_count b.setup ≤ length c.balances)
  passed_10 h =
      let n = (or_neither _ _).0 (spared _ _ (parts settle h).1.1.1.0) in
      (ltb-false _ _ n.0, ltb-false _ _ n.1)

-- ---- 11 to 20, of the state

module _ (b : Book) (qs : List Request) where
  pub passed_11 : (k : Kind) → Clear (state_checks b k qs) → b.phase ≡ phase_of k
  unfolding state_checks
  passed_11 k h = eqb-true _ _ (not-false _ (spared _ _ (clear_at 0 (state_checks b k qs) h)))

  -- no batch is open
  pub passed_12 : (k : Kind) → k one_of (open_batch ∷ close_gate ∷ []) ≡ true → Clear (state_checks b k qs) → b.saved ≡ None
  unfolding state_checks
  passed_12 k e h = none_of b.saved (spared_for _ _ _ e (clear_at 1 (state_checks b k qs) h))

  -- a batch is open
  pub passed_13 : (k : Kind) → k one_of (undo ∷ keep ∷ []) ≡ true → Clear (state_checks b k qs)
      → (part : Part) × (b.saved ≡ Some part)
  unfolding state_checks
  passed_13 k e h = some_of b.saved (not-false _ (spared_for _ _ _ e (clear_at 2 (state_checks b k qs) h)))

  -- the ask of the commit stands
  pub passed_23 : Clear (state_checks b commit qs) → stands_with (proposed (first_of qs)) (ask_at b (first_of qs).account) ≡ true
  unfolding state_checks
  passed_23 h = not-false _ (spared _ _ (clear_at 3 (state_checks b commit qs) h))

  -- no pending row is alike
  pub passed_14 : (k : Kind) → k one_of adding ≡ true → Clear (state_checks b k qs) → any_passes (has_twin b.part.rows) qs ≡ false
  unfolding state_checks
  passed_14 k e h = spared_for _ _ _ e (clear_at 4 (state_checks b k qs) h)

  -- no two of the requests are alike
  pub passed_22 : (k : Kind) → k one_of adding ≡ true → Clear (state_checks b k qs) → twins qs ≡ false
  unfolding state_checks
  passed_22 k e h = spared_for _ _ _ e (clear_at 5 (state_checks b k qs) h)

  -- a number is left for each
  pub passed_15 : (k : Kind) → k one_of adding ≡ true → Clear (state_checks b k qs) → length b.part.rows + length qs ≤ most_rows
  unfolding state_checks
  passed_15 k e h = leb-true _ _ (not-false _ (spared_for _ _ _ e (clear_at 6 (state_checks b k qs) h)))

  -- the row is there
  pub passed_16_confirm : Clear (state_checks b confirm qs) → (i : ℕ) × (confirms b.part.rows (first_of qs) ≡ Some i)
  unfolding state_checks
  passed_16_confirm h = some_of _ (not-false _ (spared _ _ (clear_at 7 (state_checks b confirm qs) h)))

  pub passed_16_withdraw : Clear (state_checks b withdraw qs) → withdraws b.part.rows (first_of qs) ≡ true
  unfolding state_checks
  passed_16_withdraw h = not-false _ (spared _ _ (clear_at 8 (state_checks b withdraw qs) h))

  -- terms mirror
  pub passed_17 : Clear (state_checks b confirm qs) → mirrors (first_of qs) (nth b.part.rows (confirmed_number b (first_of qs)) no_row) ≡ true
  unfolding state_checks
  passed_17 h = not-false _ (spared _ _ (clear_at 9 (state_checks b confirm qs) h))

  -- no margin of the calling account is broken on the book as it will be
  pub passed_18 : (k : Kind) → k one_of (confirm ∷ adding) ≡ true → Clear (state_checks b k qs)
      → broken_hour b.setup (changed k b qs).part.rows (first_of qs).account ≡ None
  unfolding state_checks
  passed_18 k e h = spared↑_for _ _ _ e (clear_at 10 (state_checks b k qs) h)

  -- exposure is covered on the book as it will be
  pub passed_19 : (k : Kind) → k one_of (confirm ∷ guarantee ∷ adding) ≡ true → Clear (state_checks b k qs)
      → covered b.setup (changed k b qs).part (exposed_operator k b.setup (first_of qs)) ≡ true
  unfolding state_checks
  passed_19 k e h = not-false _ (spared_for _ _ _ e (clear_at 11 (state_checks b k qs) h))

  -- a place is left
  pub passed_20 : Clear (state_checks b schedule qs) → length b.schedules < most_schedules
  unfolding state_checks
  passed_20 h = leb-false _ _ (spared _ _ (clear_at 12 (state_checks b schedule qs) h))

-- ---- a call

-- an accepted call: the next book and the number that it gives, with every check passed
pub record Passed (b : Book) (c : Call) : Type 0 where
  pub book : (step b c).book ≡ next (call_kind c) b (call_requests c)
  pub outcome : (step b c).outcome ≡ accepted (given (call_kind c) b (call_requests c))
  pub read : Clear (bytes_checks c.bytes)
  pub input : Clear (input_checks b c (checked_as (call_kind c)) (call_requests c))
  pub state : Clear (state_checks b (checked_as (call_kind c)) (call_requests c))

-- a refused call: why, and the book and both buffers as they were
pub record Kept (b : Book) (c : Call) : Type 0 where
  pub why : Refusal
  pub outcome : (step b c).outcome ≡ refused why
  pub book : (step b c).book ≡ b
  pub results : (step b c).results ≡ c.results
  pub balances : (step b c).balances ≡ c.balances

-- what holds of a book, and of it without its asks, holds whatever kind of call was accepted
pub cleared_either : (P : Book → Type 0) (k : Kind) (b : Book) → P b → P (with_asks b no_asks) → P (cleared_by k b)
cleared_either P k b with_asks_lem without = go (k one_of (ask ∷ []))
  where
    go : (t : Bool) → P (if t then b else with_asks b no_asks)
    go true = with_asks_lem
    go false = without

-- the requests say the call's kind
pub passed_asked : {b : Book} {c : Call} → Passed b c → Asked (call_kind c) (call_requests c)
passed_asked {c} p = bytes_asked c.bytes p.read

pub passed : (b : Book) (c : Call) → refusal b c ≡ None → Passed b c
unfolding step answer refusal checks
passed b c e =
    let r = bytes_checks c.bytes in
    let i = input_checks b c (checked_as (call_kind c)) (call_requests c) in
    let s = state_checks b (checked_as (call_kind c)) (call_requests c) in
    let outer = clear_split (r ++ i) s (clear (checks b c) e) in
    let inner = clear_split r i outer.0 in
    record { book = rw e; outcome = rw e; read = inner.0; input = inner.1; state = outer.1 }

pub refused_keeps : (b : Book) (c : Call) (r : Refusal) → refusal b c ≡ Some r → Kept b c
unfolding step answer
refused_keeps b c r e = record { why = r; outcome = rw e; book = rw e; results = rw e; balances = rw e }

cases_go : (b : Book) (c : Call) (o : Option Refusal) → refusal b c ≡ o → Kept b c ⊎ Passed b c
cases_go b c (Some r) e = inl (refused_keeps b c r e)
cases_go b c None e = inr (passed b c e)

-- a call is refused and keeps everything, or passed every check
pub step_cases : (b : Book) (c : Call) → Kept b c ⊎ Passed b c
step_cases b c = cases_go b c (refusal b c) refl

accepted_go : (b : Book) (c : Call) (n : ℕ) (o : Option Refusal) → refusal b c ≡ o → (answer b c o).outcome ≡ accepted n → Passed b c
unfolding answer
accepted_go b c n (Some r) e h = absurd (never_both r n h)
accepted_go b c n None e h = passed b c e

-- a call that is accepted passed every check
pub accepted_passed : (b : Book) (c : Call) (n : ℕ) → (step b c).outcome ≡ accepted n → Passed b c
unfolding step
accepted_passed b c n h = accepted_go b c n (refusal b c) refl h

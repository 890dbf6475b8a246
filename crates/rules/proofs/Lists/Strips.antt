-- Strips and registers, on every book: a strip of one kind 1 record answers as that register, and an accepted strip leaves the book that
-- its registers in turn would leave, and is heard as them.
use Rattle.std.specs.Prelude.{Option, None, Some}
use Prim.Native.Nat.{ℕ, ◌+◌, ◌*◌, ◌≤◌}
use mathlib.Core.Path.{◌≡◌, refl, sym, ap, ◌∙◌}
use mathlib.Core.List.{List, [], ◌∷◌, ◌++◌, map, append_assoc}
use mathlib.Core.Bool.{Bool, true, false, not}
use native.Mathlib.Omega.{arith}
use lib.ListN.{length, get_or, drop, length-append, length-drop}
use lib.Seq.{take_all}
use borrow.Author.Tests.{eqb-true, eq-eqb, le-leb}
use Rattle.wire.specs.Numbers.{number, number_at}
use Rattle.wire.specs.Parts.{chunks}
use Rattle.wire.proofs.SlotLaws.{Uniform, uniform_chunks}
use Rattle.wire.proofs.NumberLaws.{number_at_one}
use Rattle.rules.specs.declared.Row.{Row}
use Rattle.rules.specs.declared.Request.{Request}
use Rattle.rules.specs.declared.Refusal.{Refusal}
use Rattle.rules.specs.declared.Refusal.TheVariants.{Unreadable, UnknownKind, WrongLength}
use Rattle.rules.specs.Basics.{total, any_passes, every, counting, bit, Each, nil, cons}
use Rattle.rules.specs.Verdicts.{Check, ◌⇒◌, ◌⇒↑◌, applies, first_to_apply}
use Rattle.rules.specs.Limits.{most_rows}
use Rattle.rules.specs.Books.{Book, part_rows, with_asks, with_rows, no_asks, counts_of, operator_of, registration_phase}
use Rattle.rules.specs.Registration.{proposed, has_twin, twins, rows_pass, account_hour, broken_hour, covered}
use Rattle.rules.specs.Requests.{Kind, register, strip, kind_number, kind_of, map_of, offset, field_in, request_of, unreadable, map_check, read_checks, is_strip, head_length, row_length, strip_count, strip_rows, row_checks, strip_checks, requests_of, first_of, faulty_bit, faulty_bit_among, same_accounts}
use Rattle.rules.specs.Calls.{Call, call_kind, call_requests, checked_as, bytes_checks, input_checks, state_checks, checks, refusal, apply, given, settles, answer, step}
use Rattle.rules.specs.Lists.{runs, after, accepts, was_accepted}
use Rattle.rules.specs.Ledger.{Ledger, feed, feed_each, fed, fed_all}
use Rattle.rules.specs.Strips.{IsRegister, with_bytes, strip_of_one, registers_of}
use Rattle.rules.proofs.Checks.Clearing.{Clear, clear_join, clear_applies}
use Rattle.rules.proofs.Checks.Passed.{strip_sized, passed_21, strip_rows_read, strip_rows_length, Passed, passed, passed_6, passed_6_proposer, passed_7, passed_11, passed_14, passed_15, passed_18, passed_19, passed_22, single_requests, strip_requests_lem}
use Rattle.rules.proofs.Basics.Searches.{first_and_rest, any_none, none_any, each_both, each_image, each_any}
use Rattle.rules.proofs.Rows.RowTests.{twins_none, twin_snoc}
use Rattle.rules.proofs.Rows.Easing.{Eased, eased_unbroken, eased_covered, fewer_ease}
use Rattle.rules.proofs.Lists.CallLists.{passed_accepted, accepts_passed}
use Rattle.rules.proofs.Records.Fields.{offset_first, field_in_absent}

-- ---- a strip of one record

-- the checks past those of the bytes, at a kind with requests
abbrev later : Book → Call → Kind → List Request → List Check
later b c k qs = input_checks b c k qs ++ state_checks b k qs

in_two : (b : Book) (c : Call) → refusal b c ≡ first_to_apply (bytes_checks c.bytes ++ later b c (checked_as (call_kind c)) (call_requests c))
unfolding refusal checks
in_two b c = ap first_to_apply (append_assoc (bytes_checks c.bytes) _ _)

-- a check whose test is false may be left out
left_out : (front : List Check) (r : Refusal) (rest : List Check) → first_to_apply (front ++ (false ⇒ r) ∷ rest) ≡ first_to_apply (front ++ rest)
unfolding first_to_apply
left_out [] r rest = refl
left_out (c ∷ front) r rest = ap (λ (o : Option Refusal). elim (applies c) [ Some y ↦ Some y | None ↦ o ]) (left_out front r rest)

-- the bytes of the strip of one record; its head says a map of the kind alone, and the kind of a strip
abbrev headed : List ℕ → List ℕ
headed s = 1 ∷ 0 ∷ 11 ∷ 1 ∷ s

head_map : (s : List ℕ) → map_of (headed s) ≡ 1
unfolding map_of number_at number
head_map s = refl

head_kind : (s : List ℕ) → field_in (headed s) 0 ≡ kind_number strip
unfolding field_in map_of number_at number offset total counting bit
head_kind s = refl

module _ (s : List ℕ) (sized : length s ≡ row_length) where
  one_row : strip_rows (headed s) ≡ s ∷ []
  unfolding strip_rows chunks
  one_row = ap (λ (t : List ℕ). t ∷ []) (take_all row_length s (omega arith))

  one_request : requests_of (headed s) ≡ request_of s ∷ []
  one_request = strip_requests_lem (headed s) (rw (head_kind s)) ∙ ap (map request_of) one_row

  -- its own checks do not apply
  row_decides : (rest : List Check) → first_to_apply (bytes_checks (headed s) ++ rest) ≡ first_to_apply (row_checks (s ∷ []) ++ rest)
  unfolding strip_checks unreadable bit first_to_apply
  row_decides rest = rw (head_kind s, head_map s, sized, one_row)

  -- a row that is a register by its kind is refused for what the register is: 2 or 4
  as_register_lem : field_in s 0 ≡ kind_number register → (rest : List Check)
      → first_to_apply (row_checks (s ∷ []) ++ rest) ≡ first_to_apply (bytes_checks s ++ rest)
  unfolding row_checks read_checks
  as_register_lem e rest = rw (e, sized) (sym (left_out ((unreadable s ⇒ Unreadable) ∷ (false ⇒ UnknownKind) ∷ map_check (kind_number register) s ∷ []) WrongLength rest))

  -- one without a kind is refused by 2
  both_unreadable : bit (map_of s) 0 ≡ false → (rest : List Check)
      → (first_to_apply (row_checks (s ∷ []) ++ rest) ≡ Some Unreadable) × (first_to_apply (bytes_checks s ++ rest) ≡ Some Unreadable)
  unfolding row_checks read_checks unreadable first_to_apply
  both_unreadable e rest = (rw (sized, e), rw (field_in_absent s 0 e, sized, e))

module _ (b : Book) (c : Call) (sized : length c.bytes ≡ row_length) where
  -- what follows the checks of the bytes is the same
  same_later : (qs : List Request) → later b (strip_of_one c) strip qs ≡ later b c register qs
  unfolding input_checks state_checks apply
  same_later qs = refl

  module _ (e : field_in c.bytes 0 ≡ kind_number register) where
    same-checks : later b (strip_of_one c) (checked_as (call_kind (strip_of_one c))) (call_requests (strip_of_one c))
        ≡ later b c (checked_as (call_kind c)) (call_requests c)
    same-checks = rw (e, head_kind c.bytes, one_request c.bytes sized, single_requests c.bytes (rw e)) (same_later (request_of c.bytes ∷ []))

    same-refusal : refusal b (strip_of_one c) ≡ refusal b c
    same-refusal =
        in_two b (strip_of_one c)
        ∙ ap (λ (rest : List Check). first_to_apply (bytes_checks (strip_of_one c).bytes ++ rest)) same-checks
        ∙ row_decides c.bytes sized _
        ∙ as_register_lem c.bytes sized e _
        ∙ sym (in_two b c)

    same_answer : (o : Option Refusal) → answer b (strip_of_one c) o ≡ answer b c o
    unfolding answer settles given apply
    same_answer (Some r) = refl
    same_answer None = rw (e, head_kind c.bytes, one_request c.bytes sized, single_requests c.bytes (rw e))

    of_register : step b (strip_of_one c) ≡ step b c
    unfolding step
    of_register = same_answer (refusal b (strip_of_one c)) ∙ ap (answer b c) same-refusal

  of_unreadable : bit (map_of c.bytes) 0 ≡ false → step b (strip_of_one c) ≡ step b c
  unfolding step answer
  of_unreadable e =
      rw (in_two b (strip_of_one c) ∙ row_decides c.bytes sized _ ∙ (both_unreadable c.bytes sized e _).0, in_two b c ∙ (both_unreadable c.bytes sized e _).1)

-- a strip of one kind 1 record answers as that register
pub strip_of_one_lem : (b : Book) (c : Call) → length c.bytes ≡ row_length → get_or c.bytes 2 0 ≡ kind_number register → step b (strip_of_one c) ≡ step b c
unfolding field_in
strip_of_one_lem b c sized third = go (bit (map_of c.bytes) 0) refl
  where
    go : (t : Bool) → bit (map_of c.bytes) 0 ≡ t → step b (strip_of_one c) ≡ step b c
    go true e = of_register b c sized (rw (e, offset_first (map_of c.bytes), number_at_one c.bytes 2) third)
    go false e = of_unreadable b c sized e

-- ---- an accepted strip and its registers in turn

-- requests of one proposer that register may take one after the other: each is in range and like no row that stands, no two are alike,
-- there are numbers for all of them, and with all of them in no margin is broken and the exposure is covered
record Fit (b : Book) (proposer : ℕ) (qs : List Request) : Type 0 where
  pub phase : b.phase ≡ registration_phase
  pub ranged : Each (λ q. (q.account ≡ proposer) × (faulty_bit (counts_of b.setup) q ≡ None)) qs
  pub apart : Each (λ q. same_accounts q ≡ false) qs
  pub fresh : Each (λ q. has_twin b.part.rows q ≡ false) qs
  pub distinct : twins qs ≡ false
  pub room : length b.part.rows + length qs ≤ most_rows
  pub margins : broken_hour b.setup (b.part.rows ++ map proposed qs) proposer ≡ None
  pub cover : covered b.setup (part_rows b.part (b.part.rows ++ map proposed qs)) (operator_of b.setup proposer) ≡ true

-- those of a strip that is not refused
strip_fits : (b : Book) (c : Call) (qs : List Request) → Clear (input_checks b c strip qs) → Clear (state_checks b strip qs)
    → Fit b (first_of qs).account qs
unfolding apply
strip_fits b c qs i s =
    record {
      phase = passed_11 b qs strip s;
      ranged = each_both (λ q e f. (e, f)) (passed_6_proposer b c qs strip i) (passed_6 b c qs strip i);
      apart = passed_7 b c qs strip i;
      fresh = any_none _ qs (passed_14 b qs strip refl s);
      distinct = passed_22 b qs strip refl s;
      room = passed_15 b qs strip refl s;
      margins = passed_18 b qs strip refl s;
      cover = passed_19 b qs strip refl s;
    }

-- the book with rows more, and no asks
abbrev with_more : Book → List Row → Book
with_more b rows = with_asks (with_rows b (b.part.rows ++ rows)) no_asks

-- with one row more
abbrev with_one : Book → Request → Book
with_one b q = with_more b (proposed q ∷ [])

-- checks that are idle, one after the other
infixr 5 ◌then◌
data Idle : List Check → Type 0 where
  all_idle : Idle []
  ◌then◌ : {c : Check} {cs : List Check} → applies c ≡ None → Idle cs → Idle (c ∷ cs)

idle_clear : {cs : List Check} → Idle cs → Clear cs
idle_clear all_idle = tt
idle_clear (h then hs) = (h, idle_clear hs)

-- a check whose test fails, whose wish holds, whose search finds nothing
idle : {t : Bool} (r : Refusal) → t ≡ false → applies (t ⇒ r) ≡ None
idle r e = rw e

idle_not : {t : Bool} (r : Refusal) → t ≡ true → applies (not t ⇒ r) ≡ None
idle_not r e = rw e

idle↑ : {o : Option ℕ} (r : ℕ → Refusal) → o ≡ None → applies (o ⇒↑ r) ≡ None
idle↑ r e = rw e

module _ (b : Book) (p : ℕ) (q : Request) (qs : List Request) (f : Fit b p (q ∷ qs)) where
  all_in : b.part.rows ++ proposed q ∷ [] ++ map proposed qs ≡ b.part.rows ++ map proposed (q ∷ qs)
  all_in = append_assoc b.part.rows (proposed q ∷ []) (map proposed qs)

  -- with the first in, the others fit
  fit_next : Fit (with_one b q) p qs
  fit_next =
      let d = twins_none q qs f.distinct in
      record {
        phase = f.phase;
        ranged = (first_and_rest f.ranged).1;
        apart = (first_and_rest f.apart).1;
        fresh = each_both (λ x e w. twin_snoc b.part.rows q x e w) (first_and_rest f.fresh).1 d.0;
        distinct = d.1;
        room = omega (arith, f.room, length-append b.part.rows (proposed q ∷ []));
        margins = rw all_in f.margins;
        cover = rw all_in f.cover;
      }

  -- the rest are not there yet, which eases every account
  eases : (a h : ℕ) → Eased (account_hour (b.part.rows ++ map proposed (q ∷ qs)) a h) (account_hour (b.part.rows ++ proposed q ∷ []) a h)
  eases a h = rw (← all_in) (fewer_ease (b.part.rows ++ proposed q ∷ []) a h (each_image proposed (each_any qs (λ x. refl))))

  -- the first is not refused
  first_input : (c : Call) → Idle (input_checks b c register (q ∷ []))
  unfolding input_checks faulty_bit_among
  first_input c =
      let ranged : faulty_bit_among (counts_of b.setup) q.account q ≡ None = rw (eq-eqb q.account q.account refl) (first_and_rest f.ranged).0.1 in
      refl then idle↑ _ ranged then refl then idle _ (first_and_rest f.apart).0 then refl then all_idle

  first_state : Idle (state_checks b register (q ∷ []))
  unfolding state_checks apply any_passes twins
  first_state =
      let same = (first_and_rest f.ranged).0.0 in
      let fresh : any_passes (has_twin b.part.rows) (q ∷ []) ≡ false = none_any (has_twin b.part.rows) (cons {x = q} (first_and_rest f.fresh).0 nil) in
      let room : rows_pass b.part.rows 1 ≡ true = le-leb (length b.part.rows + 1) most_rows (omega (arith, f.room)) in
      let rows : List Row = b.part.rows ++ proposed q ∷ [] in
      let margins =
      eased_unbroken b.setup _ rows q.account (eases q.account) (ap (broken_hour b.setup (b.part.rows ++ map proposed (q ∷ qs))) same ∙ f.margins)
      in
      let cover =
      eased_covered b.setup b.part.guarantees _ rows (operator_of b.setup q.account) (λ a h owns. eases a h)
      (ap (λ (a : ℕ). covered b.setup (part_rows b.part (b.part.rows ++ map proposed (q ∷ qs))) (operator_of b.setup a)) same ∙ f.cover)
      in
      idle_not _ (eq-eqb _ _ f.phase)
      then refl
      then refl
      then refl
      then idle _ fresh
      then refl
      then idle_not _ room
      then refl
      then refl
      then refl
      then idle↑ _ margins
      then idle_not _ cover
      then refl
      then all_idle

-- a row of a strip that was not refused, and its length
record ReadRow (s : List ℕ) : Type 0 where
  pub read : IsRegister s
  pub sized : length s ≡ row_length

uniform_each : (w : ℕ) (cs : List (List ℕ)) → Uniform w cs → Each (λ s. length s ≡ w) cs
uniform_each w [] h = nil
uniform_each w (c ∷ cs) h = cons h.0 (uniform_each w cs h.1)

rows_read : (s : List ℕ) → Clear (strip_checks s) → Each ReadRow (strip_rows s)
unfolding strip_rows
rows_read s h =
    let n : row_length * strip_count s ≤ length (drop head_length s) = omega (arith, strip_sized s h, length-drop head_length s) in
    each_both (λ r e f. record { read = e; sized = f }) (strip_rows_read s h) (uniform_each row_length (strip_rows s) (uniform_chunks row_length (strip_count s) (drop head_length s) n))

-- its bytes are not refused
row_clear : (s : List ℕ) → ReadRow s → Clear (bytes_checks s)
unfolding read_checks unreadable bit
row_clear s r = rw (r.read.of_kind, r.read.mapped, r.sized) (refl, (refl, (refl, (refl, tt))))

-- as a call on a book that it fits, it is accepted and adds its row
module _ (b : Book) (c : Call) (p : ℕ) (qs : List Request) (r : ReadRow c.bytes) (f : Fit b p (request_of c.bytes ∷ qs)) where
  alone : call_requests c ≡ request_of c.bytes ∷ []
  alone = single_requests c.bytes (rw r.read.of_kind)

  row_passes : Passed b c
  unfolding refusal checks
  row_passes =
      let input : Clear (input_checks b c (checked_as (call_kind c)) (call_requests c)) = rw (r.read.of_kind, alone) (idle_clear (first_input b p (request_of c.bytes) qs f c)) in
      let state : Clear (state_checks b (checked_as (call_kind c)) (call_requests c)) = rw (r.read.of_kind, alone) (idle_clear (first_state b p (request_of c.bytes) qs f)) in
      let before = clear_join (bytes_checks c.bytes) _ (row_clear c.bytes r) input in
      passed b c (clear_applies (checks b c) (clear_join (bytes_checks c.bytes ++ input_checks b c (checked_as (call_kind c)) (call_requests c)) _ before state))

  row_adds : (step b c).book ≡ with_one b (request_of c.bytes)
  unfolding apply
  row_adds = row_passes.book ∙ rw (r.read.of_kind, alone)

-- rows that fit a book, as registers in turn: all are accepted, and all rows are added
module _ (c : Call) (p : ℕ) where
  in_turn : (b : Book) (s : List ℕ) (rows : List (List ℕ)) → Each ReadRow (s ∷ rows) → Fit b p (map request_of (s ∷ rows))
      → after step b (map (with_bytes c) (s ∷ rows)) ≡ with_more b (map proposed (map request_of (s ∷ rows)))
  unfolding after
  in_turn b s [] (cons r e) f = row_adds b (with_bytes c s) p [] r f
  in_turn b s (t ∷ rows) (cons r e) f =
      let q : Request = request_of s in
      ap (λ (x : Book). after step x (map (with_bytes c) (t ∷ rows))) (row_adds b (with_bytes c s) p (map request_of (t ∷ rows)) r f)
      ∙ in_turn (with_one b q) t rows e (fit_next b p q (map request_of (t ∷ rows)) f)
      ∙ ap (λ (rs : List Row). with_asks (with_rows b rs) no_asks) (all_in b p q (map request_of (t ∷ rows)) f)

  all_accepted : (b : Book) (rows : List (List ℕ)) → Each ReadRow rows → Fit b p (map request_of rows)
      → every was_accepted (runs step b (map (with_bytes c) rows)) ≡ true
  unfolding runs every
  all_accepted b [] nil f = refl
  all_accepted b (s ∷ rows) (cons r e) f =
      let q : Request = request_of s in
      rw (passed_accepted (row_passes b (with_bytes c s) p (map request_of rows) r f), row_adds b (with_bytes c s) p (map request_of rows) r f)
      (all_accepted (with_one b q) rows e (fit_next b p q (map request_of rows) f))

-- the ledger takes each of them as one request
one_by_one : (c : Call) (l : Ledger) (rows : List (List ℕ)) → Each ReadRow rows
    → feed_each (map request_of rows) l ≡ fed_all l (map (λ (r : Call). (r.bytes, true)) (map (with_bytes c) rows))
unfolding feed_each fed fed_all
one_by_one c l [] nil = refl
one_by_one c l (s ∷ rows) (cons r e) =
    one_by_one c (feed (kind_of (request_of s).kind) (request_of s) l) rows e
    ∙ ap (λ (qs : List Request). fed_all (feed_each qs l) (map (λ (r : Call). (r.bytes, true)) (map (with_bytes c) rows))) (sym (single_requests s (rw r.read.of_kind)))

module _ (b : Book) (c : Call) (strips : is_strip c.bytes ≡ true) (passes : accepts step b c ≡ true) where
  it_passed : Passed b c
  it_passed = accepts_passed b c passes

  its_rows : Each ReadRow (strip_rows c.bytes)
  its_rows = rows_read c.bytes (rw strips at it_passed.read)

  its_fit : Fit b (first_of (map request_of (strip_rows c.bytes))).account (map request_of (strip_rows c.bytes))
  its_fit =
      let kind = eqb-true (field_in c.bytes 0) (kind_number strip) strips in
      strip_fits b c _ (rw (kind, strip_requests_lem c.bytes strips) at it_passed.input) (rw (kind, strip_requests_lem c.bytes strips) at it_passed.state)

  -- an accepted strip leaves the book that its registers in turn would leave
  pub strip_in_turn : after step b (registers_of c) ≡ (step b c).book
  unfolding apply
  strip_in_turn =
      let clear : Clear (strip_checks c.bytes) = rw strips at it_passed.read in
      go (strip_rows c.bytes) (omega (arith, strip_rows_length c.bytes clear, (passed_21 c.bytes clear).0)) its_rows its_fit
      ∙ sym (it_passed.book ∙ rw (eqb-true (field_in c.bytes 0) (kind_number strip) strips, strip_requests_lem c.bytes strips))
    where
      go : (rows : List (List ℕ)) → 1 ≤ length rows → Each ReadRow rows → Fit b (first_of (map request_of (strip_rows c.bytes))).account (map request_of rows)
          → after step b (map (with_bytes c) rows) ≡ with_more b (map proposed (map request_of rows))
      go [] more e f = absurd (omega arith)
      go (s ∷ rows) more e f = in_turn c _ b s rows e f

  -- each of which would be accepted
  pub strip_rows_accepted : every was_accepted (runs step b (registers_of c)) ≡ true
  strip_rows_accepted = all_accepted c _ b (strip_rows c.bytes) its_rows its_fit

  -- and the ledger hears it as them in turn
  pub strip_heard : (l : Ledger) → fed c.bytes true l ≡ fed_all l (map (λ (r : Call). (r.bytes, true)) (registers_of c))
  unfolding fed
  strip_heard l = rw (strip_requests_lem c.bytes strips) (one_by_one c l (strip_rows c.bytes) its_rows)

-- What a request is answered on a book before asks are cleared, whatever record says it: 6 and 7 first, then by its kind. Every single kind
-- but settle looks at nothing that a call is lent beside its record.
use Rattle.std.specs.Prelude.{if◌then◌else◌, Err, Ok, Option, None, Some}
use Prim.Native.Nat.{ℕ, ◌^◌, ◌≤◌, ◌<◌}
use mathlib.Core.Path.{◌≡◌, refl, sym, ap, ◌∙◌}
use mathlib.Core.List.{List, [], ◌∷◌}
use mathlib.Core.Bool.{Bool, true, false, not}
use native.Mathlib.Omega.{arith}
use lib.Dec.{eqb}
use borrow.Author.Tests.{eqb-false, eq-eqb, ne_eqb, not-true}
use Rattle.wire.specs.Numbers.{Bytes}
use Rattle.rules.specs.declared.Counts.{Counts}
use Rattle.rules.specs.declared.Request.{Request}
use Rattle.rules.specs.declared.Refusal.{Refusal}
use Rattle.rules.specs.declared.Refusal.TheVariants.{WrongLength, OutOfRange, SameAccount, BufferShort}
use Rattle.rules.specs.Limits.{most_hours, book_size}
use Rattle.rules.specs.Verdicts.{◌⇒◌, ◌⇒↑◌, first_to_apply, checked, refused, Checked, Verdict}
use Rattle.rules.specs.Books.{Book, counts_of}
use Rattle.rules.specs.Opening.{counts_in}
use Rattle.rules.specs.Requests.{Kind, register, settle, strip, ask, is_single, kind_number, kind_of, field_in, request_of, read_checks, reading_of, reading, is_strip, Fits, faulty_bit, faulty_bit_among, same_accounts, range_checks}
use Rattle.rules.specs.Calls.{Call, Answer, refused_on, call_requests, call_kind, ◌one_of◌, checked_as, bytes_checks, input_checks, refusal}
use Rattle.rules.proofs.Basics.Tests.{and_both}
use Rattle.rules.proofs.Checks.Clearing.{clear, spared, spared↑}
use Rattle.rules.proofs.Checks.Passed.{kind_number_lem, single_requests}
use Rattle.rules.proofs.Checks.KindTables.{kind_again, single_kind}
use Rattle.rules.proofs.Records.RoundTrip.{read_as, read_is_known, read_fits}
use Rattle.image.specs.Valid.{is_sound, is_book, book_in, book_bytes}
use Rattle.image.proofs.Round.{book_is_sound}
use Rattle.book.specs.Kinds.{decided, outcome_on, book_after, Ready}
use Rattle.book.proofs.BookRows.{checks_found}
use Rattle.book.proofs.Answers.{Answered as KindAnswered}
use Rattle.day.specs.Answers.{change_answer}
use Rattle.day.specs.Plain.{is_plain}
use Rattle.rules.proofs.Checks.Stages.{input_refused, state_decides}
use Rattle.day.proofs.Stages.{change-refused, change_decided}

-- ---- what a record reads as, and what its own checks find

unread_finds : (o : Option Refusal) (q : Request) (r : Refusal) → reading_of o q ≡ Err r → o ≡ Some r
unread_finds (Some x) q r h = cc
unread_finds None q r h = cc

read_finds : (o : Option Refusal) (q p : Request) → reading_of o q ≡ Ok p → o ≡ None
read_finds (Some x) q p h = cc
read_finds None q p h = refl

-- a record that says nothing is refused for what they find
pub unread_checks : (s : List ℕ) (r : Refusal) → reading s ≡ Err r → first_to_apply (read_checks s) ≡ Some r
unfolding reading
unread_checks s r h = unread_finds (first_to_apply (read_checks s)) (request_of s) r h

-- one that says a request passed them
read_checks_lem : (s : List ℕ) (q : Request) → reading s ≡ Ok q → first_to_apply (read_checks s) ≡ None
unfolding reading
read_checks_lem s q h = read_finds (first_to_apply (read_checks s)) (request_of s) q h

-- it is of the request's kind
read_kind : (s : List ℕ) (q : Request) → reading s ≡ Ok q → field_in s 0 ≡ q.kind
unfolding request_of
read_kind s q h = ap (λ (p : Request). p.kind) (read_as s q h).1

-- and no strip
pub read_single : (s : List ℕ) (q : Request) → reading s ≡ Ok q → is_strip s ≡ false
read_single s q h =
    ap (λ (n : ℕ). eqb n (kind_number strip)) (read_kind s q h) ∙ (single_kind q.kind (read_is_known s q h)).1.1

-- what the bytes of a single record are refused for
pub single_checks : (s : List ℕ) (o : Option Refusal) → is_strip s ≡ false → first_to_apply (read_checks s) ≡ o → first_to_apply (bytes_checks s) ≡ o
single_checks s o e h = rw e h

-- ---- 6 and 7 are all that the input of another kind than settle is refused for

sift : (f : Option ℕ) (same : Bool) (a b d : Refusal)
    → first_to_apply ((false ⇒ a) ∷ (f ⇒↑ OutOfRange) ∷ (false ⇒ b) ∷ (same ⇒ SameAccount) ∷ (false ⇒ d) ∷ [])
    ≡ first_to_apply ((f ⇒↑ OutOfRange) ∷ (same ⇒ SameAccount) ∷ [])
unfolding first_to_apply
sift (Some n) same a b d = refl
sift None true a b d = refl
sift None false a b d = refl

input_is_ranges : (b : Book) (c : Call) (k : Kind) (q : Request) → k one_of (settle ∷ []) ≡ false
    → first_to_apply (input_checks b c k (q ∷ [])) ≡ first_to_apply (range_checks (counts_of b.setup) q)
unfolding input_checks faulty_bit_among
input_is_ranges b c k q e = rw (e, eq-eqb q.account q.account refl) (sift (faulty_bit (counts_of b.setup) q) (same_accounts q) WrongLength (OutOfRange 12) BufferShort)

-- a plain kind is that of a single record, and not settle
pub plain_kind : (n : ℕ) → is_plain n ≡ true → (is_single n ≡ true) × (eqb n (kind_number settle) ≡ false)
plain_kind n h = let w = (and_both (is_single n) (not (eqb n (kind_number settle)))).0 h in (w.0, not-true _ w.1)

others : (n : ℕ) → is_plain n ≡ true → kind_of n one_of (settle ∷ []) ≡ false
others n plain =
    let k = plain_kind n plain in
    rw (kind_number_lem n k.0, k.1)

-- checked as another kind, one that is not settle is not settle
checked_other : (k : Kind) → k one_of (settle ∷ []) ≡ false → checked_as k one_of (settle ∷ []) ≡ false
checked_other k e = go (k one_of (ask ∷ []))
  where
    go : (t : Bool) → (if t then register else k) one_of (settle ∷ []) ≡ false
    go true = refl
    go false = e

-- ---- the answer on a book

module _ (s : List ℕ) (c : Call) (h : is_sound s ≡ true) (q : Request) (e : reading c.bytes ≡ Ok q) where
  says : call_requests c ≡ q ∷ []
  says = single_requests c.bytes (read_single c.bytes q e) ∙ ap (λ (p : Request). p ∷ []) (read_as c.bytes q e).1

  of_kind : field_in c.bytes 0 ≡ q.kind
  of_kind = read_kind c.bytes q e

  read_clear : first_to_apply (bytes_checks c.bytes) ≡ None
  read_clear = single_checks c.bytes None (read_single c.bytes q e) (read_checks_lem c.bytes q e)

  module _ (plain : is_plain q.kind ≡ true) where
    other : call_kind c one_of (settle ∷ []) ≡ false
    other = rw of_kind (others q.kind plain)

    ranges : first_to_apply (input_checks (book_in s) c (checked_as (call_kind c)) (call_requests c)) ≡ first_to_apply (range_checks (counts_of (book_in s).setup) q)
    ranges = rw says (input_is_ranges (book_in s) c (checked_as (call_kind c)) q (checked_other (call_kind c) other))

    -- out of range
    range_answered : (r : Refusal) → first_to_apply (range_checks (counts_of (book_in s).setup) q) ≡ Some r → change_answer s c ≡ refused_on r s c
    range_answered r f = change-refused s c h r (input_refused (book_in s) c read_clear r (ranges ∙ f))

    -- in range: what the state decides
    plain_answered : first_to_apply (range_checks (counts_of (book_in s).setup) q) ≡ None
        → change_answer s c
        ≡ record {
          outcome = outcome_on (kind_of q.kind) (book_in s) q;
          book = book_bytes (book_after (kind_of q.kind) (book_in s) q);
          results = c.results;
          balances = c.balances;
        }
    unfolding outcome_on book_after decided
    plain_answered f =
        change_decided s c other _ (state_decides (book_in s) c read_clear (ranges ∙ f))
        ∙ rw (says, of_kind)

    -- either way both buffers are as they were
    pub buffers_stay : ((change_answer s c).results ≡ c.results) × ((change_answer s c).balances ≡ c.balances)
    buffers_stay =
        let x = change_decided s c other (refusal (book_in s) c) refl in
        (ap (λ (x : Answer (List ℕ)). x.results) x, ap (λ (x : Answer (List ℕ)). x.balances) x)

-- ---- a request that was read is ready where it is in range

-- its kind is that of a single record, so where it is not settle it is plain
pub other_kind : (s : List ℕ) (q : Request) → reading s ≡ Ok q → (q.kind ≡ 10 → ⊥) → is_plain q.kind ≡ true
other_kind s q e other = rw (read_is_known s q e, ne_eqb q.kind 10 other)

-- its code is a number of 8 bytes
pub read_code : (s : List ℕ) (q : Request) → Bytes s → reading s ≡ Ok q → q.code < 256 ^ 8
unfolding Fits
read_code s q b e = read_fits s q e b 3 (omega arith)

-- what the range checks came to, on the counts that a book begins with
pub ranges_found : (s : List ℕ) → is_sound s ≡ true → (n : Counts) (q : Request) (x : Checked) (o : Option Refusal) → n ≡ counts_in s
    → x ≡ checked (first_to_apply (range_checks n q)) → x ≡ checked o → first_to_apply (range_checks (counts_of (book_in s).setup) q) ≡ o
ranges_found s h n q = checks_found s h (λ m. range_checks m q) n

pub in_range_ready : (b : Book) (q : Request) → is_plain q.kind ≡ true → q.code < 256 ^ 8 → first_to_apply (range_checks (counts_of b.setup) q) ≡ None
    → Ready (kind_of q.kind) b q
in_range_ready b q plain code e =
    let passed = clear (range_checks (counts_of b.setup) q) e in
    record {
      of_kind = sym (kind_number_lem q.kind (plain_kind q.kind plain).0);
      in_range = spared↑ _ _ passed.0;
      two_accounts = spared _ _ passed.1.0;
      code_fits = code;
    }

-- ---- each kind

-- a plain request is answered as one of its kind
pub plain_by_kind : (s : List ℕ) (q : Request) {o : Verdict} {t : List ℕ} (k : Kind) → q.kind ≡ kind_number k → KindAnswered k s q o t
    → KindAnswered (kind_of q.kind) s q o t
plain_by_kind s q k e x = rw (ap kind_of e ∙ kind_again k) x

-- a number below 9 that is none of the first four is that of such a kind
pub batch_range : (n : ℕ) → (n ≡ 1 → ⊥) → (n ≡ 2 → ⊥) → (n ≡ 3 → ⊥) → (n ≡ 4 → ⊥) → 1 ≤ n → n < 9 → (5 ≤ n) × (n ≤ 8)
batch_range n a b c d low high = (omega arith, omega arith)

-- no plain kind is left past 8 but 9, 12 and 13
pub none_left : (n : ℕ) → is_plain n ≡ true → (n ≡ 9 → ⊥) → (n ≡ 12 → ⊥) → (n ≡ 13 → ⊥) → 9 ≤ n → ⊥
none_left n plain a b c low =
    let p = plain_kind n plain in
    let (first, (last, single)) = single_kind n p.0 in
    let d = eqb-false n 10 p.1 in
    let e = eqb-false n 11 single in
    omega arith

pub none_first : (n : ℕ) → is_plain n ≡ true → n < 1 → ⊥
none_first n plain low = let (first, _) = single_kind n (plain_kind n plain).0 in omega arith

-- what a function of a kind requires: that the book is sound, and that the request is ready for it
pub ready_for : (s : List ℕ) (q : Request) (k : Kind) → is_book s ≡ true → q.kind ≡ kind_number k → Ready (kind_of q.kind) (book_in s) q
    → (is_sound s ≡ true) × Ready k (book_in s) q
ready_for s q k h e r =
    (book_is_sound most_hours book_size s h, rw (ap kind_of e ∙ kind_again k) at r)

-- ---- every call whose record says the request

-- it is answered o and leaves the bytes t, of a sound book
abbrev pub AnsweredSaying : Request → List ℕ → Verdict → List ℕ → Type 0
AnsweredSaying q s o t =
    ((c : Call) → reading c.bytes ≡ Ok q → o ≡ (change_answer s c).outcome)
    × (((c : Call) → reading c.bytes ≡ Ok q → t ≡ (change_answer s c).book) × (is_sound t ≡ true))

module _ (q : Request) (s : List ℕ) (h : is_sound s ≡ true) (plain : is_plain q.kind ≡ true) where
  -- out of range
  pub refused_saying : (r : Refusal) → first_to_apply (range_checks (counts_of (book_in s).setup) q) ≡ Some r → AnsweredSaying q s (refused r) s
  refused_saying r f = (
    (λ c e. ap (λ (x : Answer (List ℕ)). x.outcome) (sym (range_answered s c h q e plain r f))),
    ((λ c e. ap (λ (x : Answer (List ℕ)). x.book) (sym (range_answered s c h q e plain r f))), h),
  )

  -- in range: as its kind is answered
  pub plain_saying : first_to_apply (range_checks (counts_of (book_in s).setup) q) ≡ None → (o : Verdict) (t : List ℕ)
      → KindAnswered (kind_of q.kind) s q o t → AnsweredSaying q s o t
  plain_saying f o t k = (
    (λ c e. k.0 ∙ ap (λ (x : Answer (List ℕ)). x.outcome) (sym (plain_answered s c h q e plain f))),
    ((λ c e. k.1.0 ∙ ap (λ (x : Answer (List ℕ)). x.book) (sym (plain_answered s c h q e plain f))), k.1.1),
  )

-- What a call with the bytes of a strip answers, stage by stage: its bytes, its requests against the counts of the book, the state.
use Rattle.std.specs.Prelude.{Option, None, Some}
use Prim.Native.Nat.{ℕ}
use mathlib.Core.Path.{◌≡◌, refl, sym, ap, ◌∙◌}
use mathlib.Core.List.{List, [], ◌∷◌, ◌++◌, map}
use mathlib.Core.Bool.{true, false}
use native.Mathlib.Omega.{arith}
use borrow.Author.Tests.{eqb-true}
use Rattle.rules.specs.declared.Request.{Request}
use Rattle.rules.specs.declared.Counts.{Counts}
use Rattle.rules.specs.declared.Refusal.{Refusal}
use Rattle.rules.specs.declared.Refusal.TheVariants.{WrongLength, OutOfRange, BufferShort}
use Rattle.rules.specs.Verdicts.{Check, ◌⇒◌, first_to_apply, checked, refused, accepted, Checked, Verdict}
use Rattle.rules.specs.Books.{Book, counts_of}
use Rattle.rules.specs.Opening.{counts_in}
use Rattle.rules.specs.Requests.{strip, kind_number, kind_of, field_in, is_strip, strip_count, strip_rows, strip_checks, requests_of, first_of}
use Rattle.rules.specs.Calls.{Call, call_kind, call_requests, bytes_checks, input_checks, state_checks, refusal, changed, given, step, uncleared, checked_as}
use Rattle.rules.proofs.Basics.Searches.{each_map}
use Rattle.rules.proofs.Checks.Clearing.{clear, clear_split, clear_each, spared, spared↑, applies_first, applies_later}
use Rattle.rules.proofs.Checks.Passed.{among_in_range, strip_requests_lem, strip_sized, passed_21, strip_rows_read}
use Rattle.rules.proofs.Checks.Stages.{bytes_refused, input_refused, state_decides, step_decided, change_decided}
use Rattle.image.specs.Valid.{is_sound, book_in, book_bytes}
use Rattle.strip_rows.specs.Rows.{rows_from, StripOf}
use Rattle.strip_rows.specs.Passes.{range_check, accounts_check, requests_checks}
use Rattle.book.proofs.StateLaws.{book_image}
use Rattle.book.proofs.BookRows.{checks_found}
use Rattle.strips.specs.Ready.{ReadyStrip, strip_requests}
use Rattle.strips.proofs.AcceptLaws.{StripAccepted}

-- ---- the bytes

-- a strip that is not refused for its bytes has its rows, each the record of a register
pub read_strip : (s : List ℕ) (n : ℕ) → n ≡ strip_count s → first_to_apply (strip_checks s) ≡ None → StripOf s n
unfolding strip_rows rows_from
read_strip s n e h =
    let w = clear (strip_checks s) h in
    rw e (record {
      rows = record {
        inside = omega (arith, strip_sized s w);
        registers = strip_rows_read s w;
      };
      some_rows = (passed_21 s w).0;
      few_rows = (passed_21 s w).1;
    })

-- ---- the requests

-- of a list of checks, those that no strip has do not apply
module _ (cs ds : List Check) (a p z : Refusal) where
  abbrev first_checks : List Check
  first_checks = cs ++ (false ⇒ p) ∷ ds

  sift_late : first_to_apply cs ≡ None → (o : Option Refusal) → first_to_apply ds ≡ o → first_to_apply (first_checks ++ (false ⇒ z) ∷ []) ≡ o
  unfolding first_to_apply
  sift_late e (Some r) f = applies_first first_checks ((false ⇒ z) ∷ []) r (applies_later cs ((false ⇒ p) ∷ ds) e ∙ f)
  sift_late e None f = applies_later first_checks ((false ⇒ z) ∷ []) (applies_later cs ((false ⇒ p) ∷ ds) e ∙ f)

  sift_go : (o : Option Refusal) → first_to_apply cs ≡ o → first_to_apply (first_checks ++ (false ⇒ z) ∷ []) ≡ first_to_apply (cs ++ ds)
  sift_go (Some r) e =
      applies_first first_checks ((false ⇒ z) ∷ []) r (applies_first cs ((false ⇒ p) ∷ ds) r e) ∙ sym (applies_first cs ds r e)
  sift_go None e = sift_late e (first_to_apply ds) refl ∙ sym (applies_later cs ds e)

  sift : first_to_apply ((false ⇒ a) ∷ (first_checks ++ (false ⇒ z) ∷ [])) ≡ first_to_apply (cs ++ ds)
  unfolding first_to_apply
  sift = sift_go (first_to_apply cs) refl

pub input_is_requests : (b : Book) (c : Call) (qs : List Request) → first_to_apply (input_checks b c strip qs) ≡ first_to_apply (requests_checks (counts_of b.setup) qs)
unfolding input_checks requests_checks
input_is_requests b c qs =
    let n = counts_of b.setup in
    sift (map (range_check n (first_of qs).account) qs) (map accounts_check qs) WrongLength (OutOfRange 12) BufferShort

-- what the two passes found, on the counts that a book begins with
pub requests_found : (b : List ℕ) → is_sound b ≡ true → (n : Counts) (qs : List Request) (x : Checked) (o : Option Refusal) → n ≡ counts_in b
    → x ≡ checked (first_to_apply (requests_checks n qs)) → x ≡ checked o → first_to_apply (requests_checks (counts_of (book_in b).setup) qs) ≡ o
requests_found b h n qs = checks_found b h (λ m. requests_checks m qs) n

-- requests that are not refused are in range, of one proposer, and have two accounts
pub in_range_ready : (b : Book) (s : List ℕ) (n : ℕ) → StripOf s n → first_to_apply (requests_checks (counts_of b.setup) (strip_requests s n)) ≡ None → ReadyStrip b s n
unfolding requests_checks
in_range_ready b s n is h =
    let m = counts_of b.setup in
    let qs = strip_requests s n in
    let fields : List Check = map (range_check m (first_of qs).account) qs in
    let accounts : List Check = map accounts_check qs in
    let w = clear_split fields accounts (clear (fields ++ accounts) h) in
    let fine = each_map (λ q e. among_in_range _ _ q (spared↑ _ _ e)) (clear_each _ qs w.0) in
    record {
      is_strip = is;
      in_range = each_map (λ q e. e.1) fine;
      one_proposer = each_map (λ q e. e.0) fine;
      two_accounts = each_map (λ q e. spared _ _ e) (clear_each _ qs w.1);
    }

-- ---- the call

module _ (b : Book) (c : Call) (s : List ℕ) (n : ℕ) (e : c.bytes ≡ s) (is : is_strip s ≡ true) (count : n ≡ strip_count s) where
  kind : call_kind c ≡ strip
  kind = ap (λ (x : List ℕ). kind_of (field_in x 0)) e ∙ ap kind_of (eqb-true (field_in s 0) (kind_number strip) is)

  requests : call_requests c ≡ strip_requests s n
  unfolding strip_rows rows_from
  requests = ap requests_of e ∙ strip_requests_lem s is ∙ rw count

  own_bytes : (o : Option Refusal) → first_to_apply (strip_checks s) ≡ o → first_to_apply (bytes_checks c.bytes) ≡ o
  own_bytes o h = rw (e, is) h

  refused_step : (r : Refusal) → refusal b c ≡ Some r → (refused r ≡ (step b c).outcome) × ((uncleared b c).book ≡ b)
  refused_step r e = (sym (step_decided b c (Some r) e).0, change_decided b c (Some r) e)

  pub strip_bytes_refused : (r : Refusal) → first_to_apply (strip_checks s) ≡ Some r → (refused r ≡ (step b c).outcome) × ((uncleared b c).book ≡ b)
  strip_bytes_refused r h =
      refused_step r (bytes_refused b c r (own_bytes (Some r) h))

  module _ (h : first_to_apply (strip_checks s) ≡ None) where
    input : (o : Option Refusal) → first_to_apply (requests_checks (counts_of b.setup) (strip_requests s n)) ≡ o
        → first_to_apply (input_checks b c (checked_as (call_kind c)) (call_requests c)) ≡ o
    input o f = rw (kind, requests) (input_is_requests b c (strip_requests s n) ∙ f)

    pub strip_input_refused : (r : Refusal) → first_to_apply (requests_checks (counts_of b.setup) (strip_requests s n)) ≡ Some r
        → (refused r ≡ (step b c).outcome) × ((uncleared b c).book ≡ b)
    strip_input_refused r f =
        refused_step r (input_refused b c (own_bytes None h) r (input (Some r) f))

    module _ (f : first_to_apply (requests_checks (counts_of b.setup) (strip_requests s n)) ≡ None) where
      decided : (o : Option Refusal) → first_to_apply (state_checks b strip (strip_requests s n)) ≡ o → refusal b c ≡ o
      decided o g = state_decides b c (own_bytes None h) (input None f) ∙ rw (kind, requests) g

      pub strip_state_refused : (r : Refusal) → first_to_apply (state_checks b strip (strip_requests s n)) ≡ Some r
          → (refused r ≡ (step b c).outcome) × ((uncleared b c).book ≡ b)
      strip_state_refused r g = refused_step r (decided (Some r) g)

      pub strip-step : first_to_apply (state_checks b strip (strip_requests s n)) ≡ None
          → ((step b c).outcome ≡ accepted (given strip b (strip_requests s n))) × ((uncleared b c).book ≡ changed strip b (strip_requests s n))
      strip-step g =
          ((step_decided b c None (decided None g)).0 ∙ rw (kind, requests), change_decided b c None (decided None g) ∙ rw (kind, requests))

-- ---- every call with these bytes

-- it is answered o, and leaves the bytes t, of a sound book
abbrev pub AnsweredStrip : List ℕ → List ℕ → Verdict → List ℕ → Type 0
AnsweredStrip s bytes o t =
    ((c : Call) → c.bytes ≡ bytes → o ≡ (step (book_in s) c).outcome)
    × (((c : Call) → c.bytes ≡ bytes → t ≡ book_bytes (uncleared (book_in s) c).book) × (is_sound t ≡ true))

-- refused, it leaves the book
pub refused-strip : (s bytes : List ℕ) (r : Refusal) → is_sound s ≡ true
    → ((c : Call) → c.bytes ≡ bytes → (refused r ≡ (step (book_in s) c).outcome) × ((uncleared (book_in s) c).book ≡ book_in s)) → AnsweredStrip s bytes (refused r) s
refused-strip s bytes r h f = ((λ c e. (f c e).0), ((λ c e. book_image s h ∙ ap book_bytes (sym (f c e).1)), h))

-- accepted, it leaves the changed one
pub accepted-strip : (s bytes : List ℕ) (n : ℕ) (o : Verdict) (t : List ℕ) → StripAccepted s bytes n o t
    → ((c : Call) → c.bytes ≡ bytes
    → ((step (book_in s) c).outcome ≡ accepted (given strip (book_in s) (strip_requests bytes n))) × ((uncleared (book_in s) c).book ≡ changed strip (book_in s) (strip_requests bytes n)))
    → AnsweredStrip s bytes o t
accepted-strip s bytes n o t w f = ((λ c e. w.0 ∙ sym (f c e).0), ((λ c e. w.1.0 ∙ ap book_bytes (sym (f c e).1)), w.1.1))

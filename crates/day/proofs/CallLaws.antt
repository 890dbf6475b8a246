-- What a call on a book answers, by what its record reads as: refused where it says nothing, else as its request is; and what it answers once
-- asks are cleared. The record of a settle is always the same three bytes, so that the call is the settle of what it was lent.
use Rattle.std.specs.Prelude.{Err, Ok, Option, None, Some}
use Prim.Native.Nat.{ℕ}
use mathlib.Core.Path.{◌≡◌, refl, sym, ap, ◌∙◌}
use mathlib.Core.List.{List, [], ◌∷◌}
use mathlib.Core.Bool.{true, false}
use borrow.Author.Tests.{eqb-true}
use Rattle.wire.specs.Numbers.{Bytes, le}
use Rattle.rules.specs.declared.Request.{Request}
use Rattle.rules.specs.declared.Refusal.{Refusal}
use Rattle.rules.specs.declared.Refusal.TheVariants.{NotABook}
use Rattle.rules.specs.Basics.{bit}
use Rattle.rules.specs.Limits.{most_hours, book_size}
use Rattle.rules.specs.Verdicts.{refused, Verdict}
use Rattle.rules.specs.Books.{Book, with_asks, no_asks}
use Rattle.rules.specs.Requests.{settle, room, field_in, reading, is_strip, field_bytes, write, unless_refused}
use Rattle.rules.specs.Calls.{Call, Answer, Gives, call_kind, call_requests, changed, ◌one_of◌, refusal, step, uncleared}
use Rattle.rules.specs.Asks.{clears_asks}
use Rattle.rules.proofs.Records.RoundTrip.{read_writes_back}
use Rattle.rules.proofs.Checks.Passed.{passed, passed_asked}
use Rattle.rules.proofs.Checks.Stages.{bytes_refused}
use Rattle.rules.proofs.Lists.Asks.{cleared_step, uncleared_step}
use Rattle.image.specs.Valid.{book_bytes, is_sound, is_book, book_in}
use Rattle.image.proofs.Sound.SoundBooks.{SoundBook, book_sound, valid_sound}
use Rattle.image.proofs.Round.{decode-image, book_is_image}
use Rattle.image.proofs.Keeping.Keeps.{change_keeps, codes_fit}
use Rattle.settlement.specs.Settling.{settle_record, settle_answer}
use Rattle.strips.proofs.CallLaws.{AnsweredStrip}
use Rattle.day.specs.Answers.{call_answer, change_answer, call_with}
use Rattle.day.proofs.AnswerLaws.{call_on_book, call_on_no_book, call_leaves_a_book}
use Rattle.day.proofs.Stages.{change-refused, change_decided}
use Rattle.day.proofs.RequestLaws.{unread_checks, single_checks, buffers_stay, other_kind, AnsweredSaying}

-- ---- settle

-- the record of a settle
settle_bytes : (q : Request) → q.kind ≡ 10 → write q ≡ settle_record
unfolding write field_bytes room bit le
settle_bytes q e = rw e

-- bytes that read as a settle are its record
pub settle_record_lem : (s : List ℕ) (q : Request) → Bytes s → reading s ≡ Ok q → q.kind ≡ 10 → s ≡ settle_record
settle_record_lem s q b e k = sym (read_writes_back s q b e) ∙ settle_bytes q k

-- so that the call is the settle of what it was lent
settle_answered : (s bytes prices results balances : List ℕ) (q : Request) → Bytes bytes → reading bytes ≡ Ok q → q.kind ≡ 10
    → change_answer s (call_with bytes prices results balances) ≡ settle_answer s prices results balances
settle_answered s bytes prices results balances q b e k =
    ap (λ (x : List ℕ). change_answer s (call_with x prices results balances)) (settle_record_lem bytes q b e k)

-- ---- an answer that is given

given : (x : Answer (List ℕ)) → Gives x x.outcome x.book x.results x.balances
given x = record { outcome_given = refl; book_left = refl; results_left = refl; balances_left = refl }

-- it is given, and the bytes are those of a sound book
abbrev pub GivesSound : Answer (List ℕ) → Verdict → List ℕ → List ℕ → List ℕ → Type 0
GivesSound x o t results balances = Gives x o t results balances × (is_sound t ≡ true)

-- of bytes that are no book
pub no_book_given : (s : List ℕ) (c : Call) → is_book s ≡ false → Gives (call_answer s c) (refused NotABook) s c.results c.balances
no_book_given s c h = rw (call_on_no_book s c h) (given _)

module _ (s : List ℕ) (c : Call) (h : is_sound s ≡ true) where
  -- of a record that says nothing
  pub unread_given : (r : Refusal) → is_strip c.bytes ≡ false → reading c.bytes ≡ Err r
      → GivesSound (change_answer s c) (refused r) s c.results c.balances
  unread_given r single e =
      let checks = single_checks c.bytes (Some r) single (unread_checks c.bytes r e) in
      rw (change-refused s c h r (bytes_refused (book_in s) c r checks)) (given _, h)

  -- of a plain request
  pub said_given : (q : Request) → reading c.bytes ≡ Ok q → (q.kind ≡ 10 → ⊥) → (o : Verdict) (t : List ℕ) → AnsweredSaying q s o t
      → GivesSound (change_answer s c) o t c.results c.balances
  said_given q e other o t x =
      let stay = buffers_stay s c h q e (other_kind c.bytes q e other) in
      (record { outcome_given = x.0 c e; book_left = x.1.0 c e; results_left = sym stay.0; balances_left = sym stay.1 }, x.1.1)

-- of a strip
pub strip-given : (s : List ℕ) (c : Call) → is_strip c.bytes ≡ true → (o : Verdict) (t : List ℕ) → AnsweredStrip s c.bytes o t
    → GivesSound (change_answer s c) o t c.results c.balances
unfolding uncleared
strip-given s c is o t x =
    let other : call_kind c one_of (settle ∷ []) ≡ false = rw (eqb-true (field_in c.bytes 0) 11 is) in
    let stay = change_decided s c other (refusal (book_in s) c) refl in (
      record {
        outcome_given = x.0 c refl;
        book_left = x.1.0 c refl;
        results_left = ap (λ (a : Answer (List ℕ)). a.results) (sym stay);
        balances_left = ap (λ (a : Answer (List ℕ)). a.balances) (sym stay);
      },
      x.1.1,
    )

-- of a settle
pub settle-given : (s bytes prices results balances : List ℕ) (q : Request) → Bytes bytes → reading bytes ≡ Ok q → q.kind ≡ 10
    → (o : Verdict) (t new_results new_balances : List ℕ)
    → GivesSound (settle_answer s prices results balances) o t new_results new_balances
    → GivesSound (change_answer s (call_with bytes prices results balances)) o t new_results new_balances
settle-given s bytes prices results balances q b e k o t new_results new_balances x =
    rw (settle_answered s bytes prices results balances q b e k) x

-- ---- asks cleared

-- before asks are cleared the book is sound
uncleared_sound : (b : Book) (c : Call) → Bytes c.bytes → SoundBook b → SoundBook (uncleared b c).book
unfolding uncleared
uncleared_sound b c bytes s = go (refusal b c) refl
  where
    go : (o : Option Refusal) → refusal b c ≡ o → SoundBook (unless_refused (refusal b c) b (changed (call_kind c) b (call_requests c)))
    go (Some r) e = rw e s
    go None e =
        let w = passed b c e in
        rw e (change_keeps (call_kind c) b c (call_requests c) (passed_asked w) (codes_fit c.bytes bytes) s w.input w.state)

module _ (s : List ℕ) (c : Call) (h : is_book s ≡ true) (bytes : Bytes c.bytes) (o : Verdict) (t r l : List ℕ) (x : Gives (change_answer s c) o t r l) where
  outcome_same : o ≡ (step (book_in s) c).outcome
  unfolding uncleared
  outcome_same = x.outcome_given

  -- what is left is given as it should be
  settled_so : (u : List ℕ) → u ≡ book_bytes (step (book_in s) c).book → Gives (call_answer s c) o u r l
  unfolding uncleared
  settled_so u e =
      rw (call_on_book s c h) (record { outcome_given = x.outcome_given; book_left = e; results_left = x.results_left; balances_left = x.balances_left })

  -- by a call that clears them: the changed book without asks is left
  pub cleared_given : (u : List ℕ) → clears_asks c.bytes o ≡ true → u ≡ book_bytes (with_asks (book_in t) no_asks) → Gives (call_answer s c) o u r l
  cleared_given u e w =
      let b : Book = book_in s in
      let sound = uncleared_sound b c bytes (valid_sound b (book_is_image most_hours book_size s h).1) in
      let changed : book_in t ≡ (uncleared b c).book = ap book_in x.book_left ∙ decode-image most_hours book_size (uncleared b c).book (book_sound _ sound) in
      settled_so u (w ∙ ap (λ (y : Book). book_bytes (with_asks y no_asks)) changed ∙ ap book_bytes (sym (cleared_step b c (rw outcome_same at e))))

  -- by one that does not: the changed book itself, which is a book
  pub uncleared_given : clears_asks c.bytes o ≡ false → Gives (call_answer s c) o t r l × (is_book t ≡ true)
  uncleared_given e =
      let same : (step (book_in s) c).book ≡ (uncleared (book_in s) c).book = uncleared_step (book_in s) c (rw outcome_same at e) in
      let gives = settled_so t (x.book_left ∙ ap book_bytes (sym same)) in
      (gives, ap is_book gives.book_left ∙ call_leaves_a_book s c h bytes)

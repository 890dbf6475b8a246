-- A step by what stands at its place, and what the code of the replay hands back for one that goes on and for one that ends.
use Rattle.std.specs.Prelude.{Err, Ok, Option, None, Some, IsSome}
use Rattle.std.specs.Option.{ForSome}
use Prim.Native.Nat.{ℕ, ◌≤◌, ◌<◌}
use mathlib.Core.Path.{◌≡◌, refl, sym, ap, ◌∙◌}
use mathlib.Core.List.{List, [], ◌∷◌}
use mathlib.Core.Bool.{true}
use native.Mathlib.Omega.{arith}
use lib.ListN.{length}
use borrow.Author.Tests.{lt-ltb, le-ltb}
use Rattle.wire.specs.Regions.{splice}
use Rattle.wire.proofs.RegionLaws.{splice_none}
use Rattle.rules.specs.declared.Refusal.{Refusal}
use Rattle.rules.specs.Limits.{most_hours, book_size, longest_stream}
use Rattle.rules.specs.Verdicts.{Numbers, numbers, accepted, refused, outcome_of, Verdict}
use Rattle.rules.specs.Books.{Book}
use Rattle.rules.specs.Opening.{setup_refusal, open_outcome, opened}
use Rattle.rules.specs.Requests.{unless_refused}
use Rattle.rules.specs.Calls.{step}
use Rattle.rules.specs.Replay.{Line, answered, call_of, answer_lines, cut, long, line_text, text}
use Rattle.items.specs.declared.Found.TheVariants.{Whole, Cut, End}
use Rattle.items.specs.Stream.{found_at}
use Rattle.items.specs.Written.{Written}
use Rattle.items.proofs.WrittenLaws.{written_as}
use Rattle.items.proofs.SettledLaws.{text_one}
use Rattle.image.specs.Valid.{is_book, book_bytes}
use Rattle.image.proofs.Keeping.Opened.{opened_is_book}
use Rattle.book.specs.Answers.{open_bytes}
use Rattle.book.proofs.OpeningLaws.{setup_decides}
use Rattle.replaying.specs.declared.Stepped.{Stepped}
use Rattle.replaying.specs.Steps.{Step, ends_after, goes_on_after, item_in, open_step, first_step, beginning, item_step, step_at}
use Rattle.replaying.specs.Lent.{step_room, stepped, book_on, printed}

-- ---- what the code hands back

-- the answer, the book's bytes and the lines of a step, within their room, and what else is promised
abbrev pub Does : Step → Stepped → List ℕ → List ℕ → List ℕ → List ℕ → Type 0 → Type 0
Does x w book book₁ out out₁ rest =
    (w ≡ stepped x) × ((book₁ ≡ book_on x.onward book) × ((out₁ ≡ splice out 0 (printed x)) × ((w.end ≤ step_room) × rest)))

module _ (lines : List Line) {out out₁ : List ℕ} {past : ℕ} (put : Written out 0 (text lines) out₁ past) (room : past ≤ step_room) where
  past_lines : past ≡ length (text lines)
  past_lines = omega (arith, put.behind)

  pub does_go_on : (book : List ℕ) {book₁ : List ℕ} {rest : Type 0} (b : Book) (at : ℕ) → book₁ ≡ book_bytes b → rest
      → Does (goes_on_after lines b at) (record { next = Some at; end = past }) book book₁ out out₁ rest
  does_go_on book b at e more = (rw past_lines, (e, (put.put, (room, more))))

  pub does_end : {book book₁ : List ℕ} {rest : Type 0} {w : Stepped} → w ≡ record { next = None; end = past } → book₁ ≡ book → rest
      → Does (ends_after lines) w book book₁ out out₁ rest
  does_end e same more = (rw (e, past_lines), (same, (put.put, (rw e room, more))))

-- a step that is another's does what that one does
pub does_as : (book out : List ℕ) {x y : Step} {w : Stepped} {book₁ out₁ : List ℕ} {rest : Type 0} → y ≡ x
    → Does x w book book₁ out out₁ rest → Does y w book book₁ out out₁ rest
does_as book out e d = rw e d

-- where the replay ends nothing is promised of its going on, nor of the next item
pub ended_not_on : {P : Type 0} {past : ℕ} {w : Stepped} → w ≡ record { next = None; end = past } → IsSome w.next → P
ended_not_on e h = let z : ◌≡◌ {A = ℕ} 0 1 = cc in absurd (omega arith)

pub ended_without : (P : ℕ → Type 0) {past : ℕ} {w : Stepped} → w ≡ record { next = None; end = past } → ForSome w.next P
ended_without P e at h = let z : ◌≡◌ {A = ℕ} 0 1 = cc in absurd (omega arith)

-- one line is the text of a step that prints only it
pub one_line : {out out₁ : List ℕ} {past : ℕ} (l : Line) → Written out 0 (line_text l) out₁ past → Written out 0 (text (l ∷ [])) out₁ past
one_line l w = written_as _ (sym (text_one l)) w

-- nothing put is the text of no lines
pub no_line : (out : List ℕ) → Written out 0 (text []) out 0
unfolding text
no_line out = record { put = sym (splice_none out 0); behind = refl }

-- ---- an item after the beginning, by what is found

module _ (b : Book) (n : ℕ) (s : List ℕ) (at : ℕ) where
  pub step_whole : (from end : ℕ) → found_at s at ≡ Whole from end
      → step_at b n s at ≡ goes_on_after (answer_lines n b (call_of (item_in s from end))) (step b (call_of (item_in s from end))).book end
  unfolding step_at item_step
  step_whole from end f = rw f

  pub step_cut : found_at s at ≡ Cut → step_at b n s at ≡ ends_after (cut n ∷ [])
  unfolding step_at item_step
  step_cut f = rw f

  pub step_end : found_at s at ≡ End → step_at b n s at ≡ ends_after []
  unfolding step_at item_step
  step_end f = rw f

-- ---- the beginning

module _ (s : List ℕ) where
  pub begin_long : longest_stream < length s → beginning s ≡ ends_after (long ∷ [])
  unfolding beginning
  begin_long h = rw (lt-ltb longest_stream (length s) h)

  module _ (short : length s ≤ longest_stream) where
    begin_first : beginning s ≡ first_step s (found_at s 0)
    unfolding beginning
    begin_first = rw (le-ltb longest_stream (length s) short)

    pub begin_whole : (from end : ℕ) → found_at s 0 ≡ Whole from end → beginning s ≡ open_step (item_in s from end) end (setup_refusal (item_in s from end))
    unfolding first_step
    begin_whole from end f = begin_first ∙ rw f

    pub begin_cut : found_at s 0 ≡ Cut → beginning s ≡ ends_after (cut 0 ∷ [])
    unfolding first_step
    begin_cut f = begin_first ∙ rw f

    pub begin_end : found_at s 0 ≡ End → beginning s ≡ ends_after []
    unfolding first_step
    begin_end f = begin_first ∙ rw f

-- ---- the set-up

-- the replay goes on no further than past the set-up
pub open_next : (setup : List ℕ) (end n : ℕ) (r : Option Refusal) {w : Stepped} → w ≡ stepped (open_step setup end r) → end ≤ n
    → ForSome w.next (λ next. next ≤ n)
unfolding open_step
open_next setup end n (Some r) e h at f = let z : ◌≡◌ {A = ℕ} 0 1 = cc in absurd (omega arith)
open_next setup end n None e h at f = let same : at ≡ end = cc in omega arith

module _ (setup book : List ℕ) (size : length book ≡ book_size) (next : ℕ) {o : Verdict} {book₁ : List ℕ}
    (answer : o ≡ open_outcome setup book) (filled : book₁ ≡ open_bytes setup book) where
  decided : (r : Option Refusal) → setup_refusal setup ≡ r → (o ≡ outcome_of r 0) × (book₁ ≡ unless_refused r book (book_bytes (opened setup)))
  unfolding open_outcome open_bytes
  decided r e = let f = setup_decides setup book size ∙ e in (answer ∙ rw f, filled ∙ rw f)

  accepted_go : (n : ℕ) → o ≡ Ok n → (r : Option Refusal) → setup_refusal setup ≡ r → setup_refusal setup ≡ None
  accepted_go n h (Some r) e =
      let d : o ≡ Err r = ap (λ (x : Verdict). x) (decided (Some r) e).0 in let z : ◌≡◌ {A = ℕ} 0 1 = cc in absurd (omega arith)
  accepted_go n h None e = e

  refused_go : (x : Refusal) → o ≡ Err x → (r : Option Refusal) → setup_refusal setup ≡ r → setup_refusal setup ≡ Some x
  refused_go x h (Some r) e =
      let d : o ≡ Err r = ap (λ (x : Verdict). x) (decided (Some r) e).0 in let f : r ≡ x = cc in e ∙ ap Some f
  refused_go x h None e =
      let d : o ≡ Ok 0 = ap (λ (x : Verdict). x) (decided None e).0 in let z : ◌≡◌ {A = ℕ} 0 1 = cc in absurd (omega arith)

  module _ (v : Numbers) (told : v ≡ numbers o) {out out₁ : List ℕ} {past : ℕ} (put : Written out 0 (line_text (answered 0 v)) out₁ past)
      (room : past ≤ step_room) where
    -- an accepted set-up: its line, the fresh book, and the replay goes on
    pub does_open : {n : ℕ} → o ≡ Ok n
        → Does (open_step setup next (setup_refusal setup)) (record { next = Some next; end = past }) book book₁ out out₁ (IsSome (Some next) → is_book book₁ ≡ true)
    unfolding open_step
    does_open {n} h =
        let e = accepted_go n h (setup_refusal setup) refl in
        let d = decided None e in
        let line = one_line (answered 0 (numbers (accepted 0))) (rw (told, d.0) at put) in
        rw e (does_go_on _ line room book (opened setup) next d.1 (λ t. rw d.1 (opened_is_book setup e most_hours book_size (omega arith))))

    -- a refused one: its line, the bytes as they were, and the replay ends
    pub does_refuse : {r : Refusal} {w : Stepped} → o ≡ Err r → w ≡ record { next = None; end = past }
        → Does (open_step setup next (setup_refusal setup)) w book book₁ out out₁ (IsSome w.next → is_book book₁ ≡ true)
    unfolding open_step
    does_refuse {r} h ended =
        let e = refused_go r h (setup_refusal setup) refl in
        let d = decided (Some r) e in
        let line = one_line (answered 0 (numbers (refused r))) (rw (told, d.0) at put) in
        rw e (does_end _ line room ended d.1 (ended_not_on ended))

-- Every call leaves a valid book valid: a refused one leaves the book, an accepted one passed the checks of its kind.
use Rattle.std.specs.Prelude.{Option, None, Some}
use Prim.Native.Nat.{ℕ, ◌^◌, ◌<◌}
use mathlib.Core.Path.{◌≡◌, refl, ap, ◌∙◌}
use mathlib.Core.Logic.{◌⊎◌, inl, inr, ⊎_elim}
use mathlib.Core.List.{List, [], ◌∷◌}
use mathlib.Core.Bool.{Bool, true, false, not}
use native.Mathlib.Omega.{arith}
use Rattle.wire.specs.Numbers.{Bytes}
use Rattle.rules.specs.declared.Row.{Row}
use Rattle.rules.specs.declared.Request.{Request}
use Rattle.rules.specs.declared.Refusal.{Refusal}
use Rattle.rules.specs.Limits.{most_accounts}
use Rattle.rules.specs.Books.{Part, Book, with_asks, ask_at, no_asks}
use Rattle.rules.specs.Requests.{Kind, register, confirm, withdraw, guarantee, open_batch, undo, keep, close_gate, schedule, settle, strip, ask, commit, is_strip, request_of, requests_of, first_of}
use Rattle.rules.specs.Registration.{proposed, twins}
use Rattle.rules.specs.Calls.{Call, call_requests, call_kind, change, changed, next, ◌one_of◌, checked_as, input_checks, state_checks, step, apply}
use Rattle.rules.specs.Asks.{would_register, ask_stands, asks_stand}
use Rattle.rules.proofs.Checks.Clearing.{Clear, clear_applies}
use Rattle.rules.proofs.Checks.Passed.{Asked, cleared_either, single_requests, strip_requests_lem, Passed, Kept, passed_asked, step_cases}
use Rattle.rules.specs.Basics.{any_passes, is_some, nth, put, nil, cons}
use Rattle.rules.proofs.Basics.Searches.{put_place, each_map, each_image}
use Rattle.rules.proofs.Lists.Batches.{the_kind}
use Rattle.rules.proofs.Lists.Asks.{none_there}
use Rattle.rules.proofs.Records.Fields.{field_in_fits}
use Rattle.rules.proofs.Records.StripRows.{rows_bytes}
use Rattle.image.specs.Valid.{follows, valid}
use Rattle.image.proofs.Sound.Soundness.{every_up_to, up_to_every}
use Rattle.image.proofs.Sound.SoundBooks.{SavedSound, SoundBook, valid_sound, valid_stands, stands_valid}
use Rattle.image.proofs.Keeping.KeepsChanges.{cleared_sound, apply_keeps, apply_setup}
use Rattle.image.proofs.Keeping.KeepsKinds.{CodesFit, change_allowed}

-- the change of an accepted call of any kind keeps a book sound
pub change_keeps : (k : Kind) (b : Book) (c : Call) (qs : List Request) → Asked k qs → CodesFit qs → SoundBook b
    → Clear (input_checks b c (checked_as k) qs) → Clear (state_checks b (checked_as k) qs) → SoundBook (changed k b qs)
change_keeps k b c qs asked codes s input state = apply_keeps (change k b qs) b s (change_allowed k b c qs asked codes s input state)

-- and so does the call
next_keeps : (k : Kind) (b : Book) (c : Call) (qs : List Request) → Asked k qs → CodesFit qs → SoundBook b
    → Clear (input_checks b c (checked_as k) qs) → Clear (state_checks b (checked_as k) qs) → SoundBook (next k b qs)
next_keeps k b c qs asked codes s input state =
    let x = change_keeps k b c qs asked codes s input state in cleared_either SoundBook k (changed k b qs) x (cleared_sound (changed k b qs) x)

-- the code of a record of bytes fits its 8
code_fits : {s : List ℕ} → Bytes s → (request_of s).code < 256 ^ 8
unfolding request_of
code_fits bytes = field_in_fits bytes 3

-- and so do those of a strip's rows
pub codes_fit : (s : List ℕ) → Bytes s → CodesFit (requests_of s)
codes_fit s bytes = go (is_strip s) refl
  where
    go : (t : Bool) → is_strip s ≡ t → CodesFit (requests_of s)
    go true e = rw (strip_requests_lem s e) (each_image request_of (each_map (λ r h. code_fits h) (rows_bytes s bytes)))
    go false e = rw (single_requests s e) (cons (code_fits bytes) nil)

keeps_go : (b : Book) (c : Call) → Bytes c.bytes → SoundBook b → Kept b c ⊎ Passed b c → SoundBook (step b c).book
keeps_go b c bytes s (inl w) = rw w.book s
keeps_go b c bytes s (inr w) =
    rw w.book (next_keeps (call_kind c) b c (call_requests c) (passed_asked w) (codes_fit c.bytes bytes) s w.input w.state)

pub keeps_sound : (b : Book) (c : Call) → Bytes c.bytes → SoundBook b → SoundBook (step b c).book
keeps_sound b c bytes s = keeps_go b c bytes s (step_cases b c)

-- ---- asks that stand

-- without asks they do
pub cleared_stands : (b : Book) → asks_stand (with_asks b no_asks) ≡ true
unfolding asks_stand
cleared_stands b = up_to_every _ most_accounts (λ a low high. rw (none_there a))

-- an ask is judged whatever others stand
judged_alone : (b : Book) (asks : List (Option Row)) (o : Option Row) → ask_stands (with_asks b asks) o ≡ ask_stands b o
unfolding would_register state_checks apply
judged_alone b asks None = refl
judged_alone b asks (Some r) = refl

-- one more that register would accept stands beside the others
pub stood_stands : (b : Book) (r : Row) → asks_stand b ≡ true → would_register b r ≡ true
    → asks_stand (with_asks b (put b.asks r.proposer (Some r))) ≡ true
unfolding asks_stand
stood_stands b r old new =
    up_to_every _ most_accounts (λ a low high.
    judged_alone b (put b.asks r.proposer (Some r)) (nth (put b.asks r.proposer (Some r)) a None)
    ∙ place r.proposer a (every_up_to (λ a. ask_stands b (ask_at b a)) most_accounts old a low high))
  where
    place : (p a : ℕ) → ask_stands b (ask_at b a) ≡ true → ask_stands b (nth (put b.asks p (Some r)) a None) ≡ true
    place p a h = ⊎_elim (λ w. rw w.1 new) (λ w. rw w.0 h) (put_place b.asks p a (Some r) None)

-- an accepted ask is one that register would accept
ask_would_register : (b : Book) (qs : List Request) → Asked ask qs → Clear (state_checks b register qs) → would_register b (proposed (first_of qs)) ≡ true
unfolding would_register state_checks apply any_passes twins
ask_would_register b qs asked state =
    let q : Request = first_of qs in
    let alone : Clear (state_checks b register (q ∷ [])) = rw (asked.alone refl) at state in
    ap (λ (o : Option Refusal). not (is_some o)) (clear_applies (state_checks b register (q ∷ [])) alone)

-- the asks of the book after an accepted call
next_stands : (k : Kind) (b : Book) (qs : List Request) → Asked k qs → Clear (state_checks b (checked_as k) qs) → asks_stand b ≡ true
    → asks_stand (next k b qs) ≡ true
unfolding apply
next_stands k b qs asked state h = go (k one_of (ask ∷ [])) refl
  where
    go : (t : Bool) → k one_of (ask ∷ []) ≡ t → asks_stand (next k b qs) ≡ true
    go true e =
        let same = the_kind k ask e in
        rw same (stood_stands b (proposed (first_of qs)) h (ask_would_register b qs (rw same at asked) (rw same at state)))
    go false e = rw e (cleared_stands (changed k b qs))

stands_go : (b : Book) (c : Call) → asks_stand b ≡ true → Kept b c ⊎ Passed b c → asks_stand (step b c).book ≡ true
stands_go b c h (inl w) = rw w.book h
stands_go b c h (inr w) = rw w.book (next_stands (call_kind c) b (call_requests c) (passed_asked w) w.state h)

-- every call, accepted or refused, leaves a valid book valid
pub keeps_valid : (b : Book) (c : Call) → Bytes c.bytes → valid b ≡ true → valid (step b c).book ≡ true
keeps_valid b c bytes v =
    stands_valid (step b c).book (keeps_sound b c bytes (valid_sound b v)) (stands_go b c (valid_stands b v) (step_cases b c))

-- ---- what no call changes

setup_go : (b : Book) (c : Call) → Kept b c ⊎ Passed b c → (step b c).book.setup ≡ b.setup
setup_go b c (inl w) = ap (λ (x : Book). x.setup) w.book
setup_go b c (inr w) =
    let k : Kind = call_kind c in
    ap (λ (x : Book). x.setup) w.book
    ∙ cleared_either (λ (x : Book). x.setup ≡ b.setup) k (changed k b (call_requests c)) (apply_setup (change k b (call_requests c)) b) (apply_setup (change k b (call_requests c)) b)

pub no_call_changes_setup : (b : Book) (c : Call) → (step b c).book.setup ≡ b.setup
no_call_changes_setup b c = setup_go b c (step_cases b c)

-- no kind but open, undo and keep changes what is saved
pub next_saved : (k : Kind) (b : Book) (qs : List Request) → k one_of (open_batch ∷ undo ∷ keep ∷ []) ≡ false → (next k b qs).saved ≡ b.saved
unfolding apply
next_saved register b qs e = refl
next_saved confirm b qs e = refl
next_saved withdraw b qs e = refl
next_saved guarantee b qs e = refl
next_saved open_batch b qs e = cc
next_saved undo b qs e = cc
next_saved keep b qs e = cc
next_saved close_gate b qs e = refl
next_saved schedule b qs e = refl
next_saved settle b qs e = refl
next_saved strip b qs e = refl
next_saved ask b qs e = refl
next_saved commit b qs e = refl

saved_go : (b : Book) (c : Call) → call_kind c one_of (open_batch ∷ undo ∷ keep ∷ []) ≡ false → Kept b c ⊎ Passed b c
    → (step b c).book.saved ≡ b.saved
saved_go b c e (inl w) = ap (λ (x : Book). x.saved) w.book
saved_go b c e (inr w) = ap (λ (x : Book). x.saved) w.book ∙ next_saved (call_kind c) b (call_requests c) e

pub batch_calls_alone_change_saved : (b : Book) (c : Call) → call_kind c one_of (open_batch ∷ undo ∷ keep ∷ []) ≡ false
    → (step b c).book.saved ≡ b.saved
batch_calls_alone_change_saved b c e = saved_go b c e (step_cases b c)

-- while a batch is open the saved rows are the first of the present ones but for their status
pub batch_follows : (b : Book) (p : Part) → SoundBook b → b.saved ≡ Some p → follows p.rows b.part.rows ≡ true
batch_follows b p s e = follows_go b.saved e s.saved_sound
  where
    follows_go : (saved : Option Part) → saved ≡ Some p → SavedSound b.setup b.part.rows saved → follows p.rows b.part.rows ≡ true
    follows_go None e h = let z : ◌≡◌ {A = ℕ} 0 1 = cc in absurd (omega arith)
    follows_go (Some old) e h = let same : old ≡ p = cc in rw (← same) h.1

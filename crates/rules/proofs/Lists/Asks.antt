-- Asks and commits, on every book: an ask answers as the register of its fields, and changes only its own place of the asks; every other
-- accepted call leaves none. A commit whose ask stands is refused for nothing more, and gives the number that its ask gave.
use Rattle.std.specs.Prelude.{Option, None, Some}
use Prim.Native.Nat.{ℕ, zero, suc, ◌^◌, ◌≤◌, ◌<◌}
use mathlib.Core.Path.{◌≡◌, refl, sym, ap, ◌∙◌}
use mathlib.Core.Logic.{◌⊎◌, inl, inr, ⊎_elim}
use mathlib.Core.List.{List, [], ◌∷◌}
use mathlib.Core.Bool.{Bool, true, false, not, ◌&&◌, ◌||◌, or-false}
use native.Mathlib.Omega.{arith}
use lib.ListN.{length, get_or, set, replicate, length-set}
use lib.Seq.{get_or-set_same, drop-set-lt}
use lib.Dec.{eqb, leb, ltb}
use borrow.Author.Tests.{eqb-true, eqb-false, not-true, not-false}
use Rattle.wire.specs.Numbers.{number, number_at}
use Rattle.wire.proofs.NumberLaws.{number_at_one}
use Rattle.units.specs.Units.{kwh}
use Rattle.rules.specs.declared.Row.{Row}
use Rattle.rules.specs.declared.Request.{Request}
use Rattle.rules.specs.declared.Refusal.{Refusal}
use Rattle.rules.specs.declared.Refusal.TheVariants.{Unreadable, WrongPhase, NoStandingAsk}
use Rattle.rules.specs.Basics.{any_passes, every, nth, put, up_to, bit}
use Rattle.rules.specs.Limits.{most_accounts}
use Rattle.rules.specs.Verdicts.{Check, ◌⇒◌, first_to_apply, accepted}
use Rattle.rules.specs.Books.{Book, with_asks, ask_at, no_asks, pending_status, registration_phase}
use Rattle.rules.specs.Requests.{Kind, register, strip, ask, commit, kind_number, kind_of, map_of, room, offset, field_in, request_of, unreadable, read_checks, is_strip, requests_of, field_count, field_of, in_range, faulty_field, faulty_bit, faulty_bit_among, same_accounts}
use Rattle.rules.specs.Registration.{with_status, proposed, register_of, same_terms, stands_with, twins}
use Rattle.rules.specs.Calls.{Call, Answer, call_kind, call_requests, given, ◌one_of◌, bytes_checks, input_checks, state_checks, checks, refusal, apply, settles, answer, step, uncleared}
use Rattle.rules.specs.Lists.{runs, after, accepts, accepts_as}
use Rattle.rules.specs.Asks.{would_register, ask_stands, asks_stand, as_register, clears_asks, call_account, no_ask_of, only_asks, AskCommitted, CommittedAsAsked}
use Rattle.rules.proofs.Basics.Tests.{and_both, chain_holds, Holds, no_more, ◌and◌}
use Rattle.rules.proofs.Basics.Searches.{none_of, put_place, every_each, counted_has}
use Rattle.rules.proofs.Checks.Clearing.{Clear}
use Rattle.rules.proofs.Checks.Passed.{single_requests, bytes_kind, Passed, passed, refused_keeps, passed_23}
use Rattle.rules.proofs.Records.Fields.{offset_first, offset_step, offset_grows, field_in_absent, field_of_request, same_fields}
use Rattle.rules.proofs.Lists.CallLists.{accepts_passed, refused_leaves_all}
use Rattle.rules.proofs.Lists.Batches.{the_kind, passed_as}

-- ---- an ask beside its register

-- the buffers that were lent are as they were
abbrev pub LeavesBuffers : Call → Answer Book → Type 0
LeavesBuffers c x = (x.results ≡ c.results) × (x.balances ≡ c.balances)

-- the bytes with the kind of a register
abbrev renamed : List ℕ → List ℕ
renamed s = set s 2 (kind_number register)

same_map : (s : List ℕ) → map_of (renamed s) ≡ map_of s
unfolding map_of number_at number
same_map [] = refl
same_map (x ∷ []) = refl
same_map (x ∷ y ∷ s) = refl

-- a third byte that is not 0 is there
third_there : (s : List ℕ) → get_or s 2 0 ≡ kind_number ask → 2 < length s
third_there [] h = absurd (omega arith)
third_there (x ∷ []) h = absurd (omega arith)
third_there (x ∷ y ∷ []) h = absurd (omega arith)
third_there (x ∷ y ∷ z ∷ s) h = omega arith

-- a request with another kind
abbrev of_kind : ℕ → Request → Request
of_kind kind q =
    record {
      kind = kind;
      account = q.account;
      other = q.other;
      code = q.code;
      side = q.side;
      first = q.first;
      last = q.last;
      quantity = q.quantity;
      number = q.number;
      operator = q.operator;
      guarantee = q.guarantee;
      point = q.point;
      price = q.price;
    }

module _ (s : List ℕ) (third : get_or s 2 0 ≡ kind_number ask) (e : bit (map_of s) 0 ≡ true) where
  kind_asked : field_in s 0 ≡ kind_number ask
  unfolding field_in
  kind_asked = rw (e, offset_first (map_of s), number_at_one s 2) third

  kind_renamed : field_in (renamed s) 0 ≡ kind_number register
  unfolding field_in
  kind_renamed = rw (same_map s, e, offset_first (map_of s), number_at_one (renamed s) 2) (get_or-set_same s 2 1 0 (third_there s third))

  -- the other fields stand past the kind
  past_kind : (k : ℕ) → 2 < offset (map_of s) (suc k)
  unfolding room
  past_kind k =
      let one : room (map_of s) 0 ≡ 1 = rw e in
      omega (arith, offset_first (map_of s), offset_step (map_of s) 0, offset_grows (map_of s) 1 (suc k) (omega arith))

  others_same : (k : ℕ) → field_in (renamed s) (suc k) ≡ field_in s (suc k)
  unfolding field_in number_at
  others_same k = rw (same_map s, drop-set-lt (offset (map_of s) (suc k)) s 2 1 (past_kind k))

  request_asked : request_of s ≡ of_kind (kind_number ask) (request_of s)
  unfolding request_of
  request_asked = ap (λ (kind : ℕ). of_kind kind (request_of s)) kind_asked

  request_renamed : request_of (renamed s) ≡ of_kind (kind_number register) (request_of s)
  request_renamed = same_fields _ _ same
    where
      same : (k : ℕ) → k < field_count → field_of (request_of (renamed s)) k ≡ field_of (of_kind (kind_number register) (request_of s)) k
      same zero h = field_of_request (renamed s) 0 h ∙ kind_renamed
      same (suc k) h = field_of_request (renamed s) (suc k) h ∙ others_same k ∙ sym (field_of_request s (suc k) h)

  requests_asked : requests_of s ≡ of_kind (kind_number ask) (request_of s) ∷ []
  requests_asked = single_requests s (rw kind_asked) ∙ ap (λ (q : Request). q ∷ []) request_asked

  requests_renamed : requests_of (renamed s) ≡ of_kind (kind_number register) (request_of s) ∷ []
  requests_renamed = single_requests (renamed s) (rw kind_renamed) ∙ ap (λ (q : Request). q ∷ []) request_renamed

  same_bytes : bytes_checks (renamed s) ≡ bytes_checks s
  unfolding read_checks unreadable
  same_bytes = rw (kind_renamed, kind_asked, same_map s, length-set s 2 1)

-- without a kind bytes are refused by 2
no_kind : (b : Book) (c : Call) → bit (map_of c.bytes) 0 ≡ false → refusal b c ≡ Some Unreadable
unfolding refusal checks read_checks unreadable first_to_apply
no_kind b c e = rw (field_in_absent c.bytes 0 e, e, middle_true (ltb (length c.bytes) 3) (leb (2 ^ 13) (map_of c.bytes)))
  where
    middle_true : (s t : Bool) → s || true || t ≡ true
    middle_true true t = refl
    middle_true false t = refl

-- what is checked past the bytes looks at the kind only for the map and the range that it has
same_input : (b : Book) (c : Call) (q : Request)
    → input_checks b (as_register c) register (of_kind (kind_number register) q ∷ []) ≡ input_checks b c register (of_kind (kind_number ask) q ∷ [])
unfolding input_checks faulty_bit_among faulty_bit faulty_field in_range same_accounts
same_input b c q = refl

same_state : (b : Book) (q : Request)
    → state_checks b register (of_kind (kind_number register) q ∷ []) ≡ state_checks b register (of_kind (kind_number ask) q ∷ [])
unfolding state_checks apply any_passes twins
same_state b q = refl

module _ (b : Book) (c : Call) (third : get_or c.bytes 2 0 ≡ kind_number ask) where
  module _ (e : bit (map_of c.bytes) 0 ≡ true) where
    same-refusal : refusal b (as_register c) ≡ refusal b c
    unfolding refusal checks
    same-refusal =
        let s : List ℕ = c.bytes in
        let q : Request = request_of s in
        let front = same_bytes s third e in
        let requests = requests_renamed s third e in
        rw (front, requests, requests_asked s third e, kind_renamed s third e, kind_asked s third e, same_input b c q, same_state b q)

    -- by what it is refused for, the outcome is the same and both buffers are left
    same_answer : (o : Option Refusal) → (answer b c o).outcome ≡ (answer b (as_register c) o).outcome
    unfolding answer given
    same_answer (Some r) = refl
    same_answer None = rw (kind_renamed c.bytes third e, kind_asked c.bytes third e)

    buffers_left : (o : Option Refusal) → LeavesBuffers c (answer b c o) × LeavesBuffers c (answer b (as_register c) o)
    unfolding answer settles
    buffers_left (Some r) = ((refl, refl), (refl, refl))
    buffers_left None = rw (kind_renamed c.bytes third e, kind_asked c.bytes third e) ((refl, refl), (refl, refl))

  both_unreadable : bit (map_of c.bytes) 0 ≡ false → (refusal b c ≡ Some Unreadable) × (refusal b (as_register c) ≡ Some Unreadable)
  both_unreadable e = (no_kind b c e, no_kind b (as_register c) (ap (λ (m : ℕ). bit m 0) (same_map c.bytes) ∙ e))

  -- an ask answers as the register of its fields, whatever its bytes are
  pub ask_as_register : (step b c).outcome ≡ (step b (as_register c)).outcome
  unfolding step answer
  ask_as_register = go (bit (map_of c.bytes) 0) refl
    where
      go : (t : Bool) → bit (map_of c.bytes) 0 ≡ t → (answer b c (refusal b c)).outcome ≡ (answer b (as_register c) (refusal b (as_register c))).outcome
      go true e = same_answer e (refusal b c) ∙ ap (λ (o : Option Refusal). (answer b (as_register c) o).outcome) (sym (same-refusal e))
      go false e = rw ((both_unreadable e).0, (both_unreadable e).1)

  -- and both leave both buffers as they were
  pub ask_leaves_buffers : LeavesBuffers c (step b c) × LeavesBuffers c (step b (as_register c))
  unfolding step answer
  ask_leaves_buffers = go (bit (map_of c.bytes) 0) refl
    where
      go : (t : Bool) → bit (map_of c.bytes) 0 ≡ t
          → LeavesBuffers c (answer b c (refusal b c)) × LeavesBuffers c (answer b (as_register c) (refusal b (as_register c)))
      go true e = ((buffers_left e (refusal b c)).0, (buffers_left e (refusal b (as_register c))).1)
      go false e = rw ((both_unreadable e).0, (both_unreadable e).1) ((refl, refl), (refl, refl))

-- ---- what an accepted call leaves of the asks

-- a call that is no strip brings the request of its record
one_request : (s : List ℕ) (k : Kind) → kind_of (field_in s 0) ≡ k → k one_of (strip ∷ []) ≡ false → requests_of s ≡ request_of s ∷ []
one_request s k e single = go (is_strip s) refl
  where
    go : (t : Bool) → is_strip s ≡ t → requests_of s ≡ request_of s ∷ []
    go true h =
        let same : k ≡ strip = sym e ∙ ap kind_of (eqb-true (field_in s 0) (kind_number strip) h) in
        let z : true ≡ false = rw same at single in
        let y : ◌≡◌ {A = ℕ} 0 1 = cc in
        absurd (omega arith)
    go false h = single_requests s h

module _ (b : Book) (c : Call) (passes : accepts step b c ≡ true) where
  -- an ask changes its own place of the asks, and nothing else
  pub ask_stands_lem : call_kind c ≡ ask
      → (step b c).book ≡ with_asks b (put b.asks (request_of c.bytes).account (Some (proposed (request_of c.bytes))))
  unfolding apply
  ask_stands_lem e = (accepts_passed b c passes).book ∙ rw (e, one_request c.bytes ask e refl)

  -- any other kind leaves none
  pub others_clear : call_kind c one_of (ask ∷ []) ≡ false → (step b c).book.asks ≡ no_asks
  others_clear e = ap (λ (x : Book). x.asks) (accepts_passed b c passes).book ∙ rw e

-- ---- terms

-- the tests of terms past that of the proposer
abbrev terms : Row → Row → List Bool
terms x y =
    eqb x.counterparty y.counterparty
    ∷ eqb x.code y.code
    ∷ eqb x.side y.side
    ∷ eqb x.first y.first
    ∷ eqb x.last y.last
    ∷ eqb x.quantity.0 y.quantity.0
    ∷ []

-- rows with the same terms are proposed by the same register
same_register : (x y : Row) → same_terms x y ≡ true → register_of x ≡ register_of y
unfolding same_terms
same_register x y h = go (chain_holds (eqb x.proposer y.proposer) (terms x y) h)
  where
    go : Holds (eqb x.proposer y.proposer ∷ terms x y) → register_of x ≡ register_of y
    go (proposer and counterparty and code and side and first and last and quantity and no_more) =
        let p : x.proposer ≡ y.proposer = eqb-true _ _ proposer in
        let c : x.counterparty ≡ y.counterparty = eqb-true _ _ counterparty in
        let n : x.code ≡ y.code = eqb-true _ _ code in
        let s : x.side ≡ y.side = eqb-true _ _ side in
        let f : x.first ≡ y.first = eqb-true _ _ first in
        let l : x.last ≡ y.last = eqb-true _ _ last in
        let w : x.quantity ≡ y.quantity = ap kwh (eqb-true x.quantity.0 y.quantity.0 quantity) in
        rw (p, c, n, s, f, l, w)

-- pending rows with the same terms are the same
pub same_terms_lem : (x y : Row) → x.status ≡ pending_status → y.status ≡ pending_status → same_terms x y ≡ true → x ≡ y
same_terms_lem x y pends pends-too h =
    ap (λ (status : ℕ). with_status status x) pends
    ∙ ap proposed (same_register x y h)
    ∙ ap (λ (status : ℕ). with_status status y) (sym pends-too)

-- ---- past 23

-- what stands with the terms of a row is an ask, of an account
asked_row : (r : Row) (o : Option Row) → stands_with r o ≡ true → (x : Row) × ((o ≡ Some x) × (same_terms x r ≡ true))
asked_row r None h = let z : ◌≡◌ {A = ℕ} 0 1 = cc in absurd (omega arith)
asked_row r (Some x) h = (x, (refl, h))

asked_account : (b : Book) (a : ℕ) (r : Row) → stands_with r (ask_at b a) ≡ true → 1 ≤ a
asked_account b zero r h = let z : ◌≡◌ {A = ℕ} 0 1 = cc in absurd (omega arith)
asked_account b (suc a) r h = omega arith

-- register looks only at the fields of its row
same_fields_judged : (b : Book) (q : Request) → state_checks b register (register_of (proposed q) ∷ []) ≡ state_checks b register (q ∷ [])
unfolding state_checks apply any_passes twins
same_fields_judged b q = refl

-- a commit whose ask stands, in a book whose asks register would accept
module _ (b : Book) (q : Request) (stand : asks_stand b ≡ true) (counts : q.account ≤ most_accounts)
    (asked : stands_with (proposed q) (ask_at b q.account) ≡ true) where
  the_ask : (x : Row) × ((ask_at b q.account ≡ Some x) × (same_terms x (proposed q) ≡ true))
  the_ask = asked_row (proposed q) (ask_at b q.account) asked

  would_register_lem : would_register b the_ask.0 ≡ true
  unfolding asks_stand
  would_register_lem =
      let all = every_each (λ a. ask_stands b (ask_at b a)) (up_to most_accounts) stand in
      let low = asked_account b q.account (proposed q) asked in
      ap (ask_stands b) (sym the_ask.1.0) ∙ counted_has most_accounts 1 q.account all low (omega arith)

  -- register would accept its fields
  pub register_passes : first_to_apply (state_checks b register (q ∷ [])) ≡ None
  unfolding would_register
  register_passes =
      ap first_to_apply (sym (same_fields_judged b q))
      ∙ ap (λ (x : Request). first_to_apply (state_checks b register (x ∷ []))) (sym (same_register _ _ the_ask.1.1))
      ∙ none_of _ (not-true _ would_register_lem)

  -- and nothing refuses it
  pub commit_passes : first_to_apply (state_checks b commit (q ∷ [])) ≡ None
  unfolding state_checks first_to_apply apply
  commit_passes = rw asked register_passes

-- what a commit is refused for past 7: by 11, or by 23
abbrev pub commit_checks : Book → Request → List Check
commit_checks b q =
    (not (eqb b.phase registration_phase) ⇒ WrongPhase)
    ∷ (not (stands_with (proposed q) (ask_at b q.account)) ⇒ NoStandingAsk)
    ∷ []

-- and by nothing else
pub commit_decided : (b : Book) (q : Request) → asks_stand b ≡ true → q.account ≤ most_accounts
    → first_to_apply (state_checks b commit (q ∷ [])) ≡ first_to_apply (commit_checks b q)
unfolding state_checks first_to_apply
commit_decided b q stand counts = go (eqb b.phase registration_phase) refl (stands_with (proposed q) (ask_at b q.account)) refl
  where
    go : (t : Bool) → eqb b.phase registration_phase ≡ t → (s : Bool) → stands_with (proposed q) (ask_at b q.account) ≡ s
        → first_to_apply (state_checks b commit (q ∷ [])) ≡ first_to_apply (commit_checks b q)
    go false phase s e = rw phase
    go true phase false e = rw (phase, e)
    go true phase true e = commit_passes b q stand counts e ∙ sym (rw (phase, e))

-- ---- between an ask and its commit

-- no place holds an ask where none stands
pub none_there : (a : ℕ) → nth no_asks a None ≡ None
none_there zero = refl
none_there (suc i) = go most_accounts i
  where
    go : (n i : ℕ) → get_or {A = Option Row} (replicate n None) i None ≡ None
    go zero i = refl
    go (suc n) zero = refl
    go (suc n) (suc i) = go n i

-- a call between: no accepted ask of the account
abbrev Between : Book → ℕ → Call → Type 0
Between b a c = accepts_as step (ask ∷ []) b c && eqb (request_of c.bytes).account a ≡ false

-- what it leaves for the account: an ask of another account changes nothing, any other accepted call leaves nothing
data Leaves (b : Book) (a : ℕ) (c : Call) : Type 0 where
  stays : (step b c).book.part ≡ b.part → ask_at (step b c).book a ≡ ask_at b a
      → not (accepts step b c) || accepts_as step (ask ∷ []) b c ≡ true → Leaves b a c
  clears : ask_at (step b c).book a ≡ None → Leaves b a c

leaves : (b : Book) (a : ℕ) (c : Call) → Between b a c → Leaves b a c
leaves b a c h = go (accepts step b c) refl (call_kind c one_of (ask ∷ [])) refl
  where
    go : (t : Bool) → accepts step b c ≡ t → (s : Bool) → call_kind c one_of (ask ∷ []) ≡ s → Leaves b a c
    go false e s f =
        let book = (refused_leaves_all b c e).book in
        stays (ap (λ (x : Book). x.part) book) (ap (λ (x : Book). ask_at x a) book) (rw e)
    go true e true f =
        let book = ask_stands_lem b c e (the_kind (call_kind c) ask f) in
        let apart : eqb (request_of c.bytes).account a ≡ false = rw (e, f) at h in
        stays (ap (λ (x : Book). x.part) book) (ap (λ (x : Book). ask_at x a) book ∙ ⊎_elim (λ w. absurd (eqb-false _ a apart w.0)) (λ w. w.0) (put_place b.asks _ a _ None)) (rw (e, f))
    go true e false f = clears (ap (λ (l : List (Option Row)). nth l a None) (others_clear b c e f) ∙ none_there a)

-- the first call and the rest
first_between : (a : ℕ) (b : Book) (c : Call) (cs : List Call) → no_ask_of step a b (c ∷ cs) ≡ true
    → Between b a c × (no_ask_of step a (step b c).book cs ≡ true)
unfolding no_ask_of runs every
first_between a b c cs h = let w = (and_both _ _).0 h in (not-true _ w.0, w.1)

-- where no ask stands for the account, none does later
still_none : (a : ℕ) (b : Book) (cs : List Call) → no_ask_of step a b cs ≡ true → ask_at b a ≡ None → ask_at (after step b cs) a ≡ None
unfolding after
still_none a b [] h e = e
still_none a b (c ∷ cs) h e = let w = first_between a b c cs h in still_none a (step b c).book cs w.1 (go (leaves b a c w.0))
  where
    go : Leaves b a c → ask_at (step b c).book a ≡ None
    go (stays part same only) = same ∙ e
    go (clears gone) = gone

-- the ask stands on through the list: then only asks were accepted, and no row was registered
record Stays (a : ℕ) (b : Book) (cs : List Call) : Type 0 where
  only : only_asks step b cs ≡ true
  part : (after step b cs).part ≡ b.part
  place : ask_at (after step b cs) a ≡ ask_at b a

stays_or_gone : (a : ℕ) (b : Book) (cs : List Call) → no_ask_of step a b cs ≡ true → Stays a b cs ⊎ (ask_at (after step b cs) a ≡ None)
unfolding after only_asks runs every
stays_or_gone a b [] h = inl (record { only = refl; part = refl; place = refl })
stays_or_gone a b (c ∷ cs) h = let w = first_between a b c cs h in go (leaves b a c w.0) (stays_or_gone a (step b c).book cs w.1) w.1
  where
    go : Leaves b a c → Stays a (step b c).book cs ⊎ (ask_at (after step (step b c).book cs) a ≡ None) → no_ask_of step a (step b c).book cs ≡ true
        → Stays a b (c ∷ cs) ⊎ (ask_at (after step b (c ∷ cs)) a ≡ None)
    go (stays part same only) (inl w) rest = inl (record { only = (and_both _ _).1 (only, w.only); part = w.part ∙ part; place = w.place ∙ same })
    go (stays part same only) (inr gone) rest = inr gone
    go (clears gone) w rest = inr (still_none a (step b c).book cs rest gone)

-- of two the one, where the other never holds
the_one : {P Q : Type 0} → P ⊎ Q → (Q → ⊥) → P
the_one (inl p) never = p
the_one (inr q) never = absurd (never q)

-- an accepted ask, the calls after it, of which none is an accepted ask of its account, and an accepted commit of that account
module _ (b : Book) (asking : Call) (between : List Call) (committing : Call) (pair : AskCommitted step b asking between committing) where
  -- the account, and the row that it asked for
  abbrev a : ℕ
  a = call_account asking

  abbrev row : Row
  row = proposed (request_of asking.bytes)

  asked : Passed b asking × (call_kind asking ≡ ask)
  asked = passed_as b asking ask pair.asks

  committed : Passed (after step b (asking ∷ between)) committing × (call_kind committing ≡ commit)
  committed = passed_as (after step b (asking ∷ between)) committing commit pair.commits

  ask_left : (step b asking).book ≡ with_asks b (put b.asks a (Some row))
  ask_left = ask_stands_lem b asking ((and_both _ _).0 pair.asks).0 asked.1

  -- the commit's ask stood
  stood : stands_with (proposed (request_of committing.bytes)) (ask_at (after step b (asking ∷ between)) a) ≡ true
  stood =
      let x : Book = after step b (asking ∷ between) in
      let state : Clear (state_checks x commit (request_of committing.bytes ∷ []))
      = rw (committed.1, one_request committing.bytes commit committed.1 refl) at committed.0.state in
      ap (λ (n : ℕ). stands_with (proposed (request_of committing.bytes)) (ask_at x n)) (sym pair.own)
      ∙ passed_23 x (request_of committing.bytes ∷ []) state

  not_gone : ask_at (after step b (asking ∷ between)) a ≡ None → ⊥
  not_gone e = let z : false ≡ true = rw e at stood in let y : ◌≡◌ {A = ℕ} 0 1 = cc in omega arith

  latest : no_ask_of step a (step b asking).book between ≡ true
  unfolding after
  latest = pair.latest

  -- so the ask has a place, and stayed in it through the list
  in_place : ask_at (step b asking).book a ≡ Some row
  unfolding after
  in_place =
      let here = ap (λ (x : Book). ask_at x a) ask_left in
      here ∙ the_one (⊎_elim (λ w. inl w.1) (λ w. inr (w.0 ∙ w.1 refl)) (put_place b.asks a a (Some row) None)) (λ e. not_gone (still_none a (step b asking).book between latest (here ∙ e)))

  stayed : Stays a (step b asking).book between
  unfolding after
  stayed = the_one (stays_or_gone a (step b asking).book between latest) not_gone

  same_part : (after step b (asking ∷ between)).part ≡ b.part
  unfolding after
  same_part = stayed.part ∙ ap (λ (x : Book). x.part) ask_left

  same_outcome : (step (after step b (asking ∷ between)) committing).outcome ≡ (step b asking).outcome
  unfolding given
  same_outcome =
      let x : Book = after step b (asking ∷ between) in
      let number : given (call_kind committing) x (call_requests committing) ≡ given (call_kind asking) b (call_requests asking)
      = rw (committed.1, asked.1, same_part) in
      committed.0.outcome ∙ ap accepted number ∙ sym asked.0.outcome

  same_row : proposed (request_of committing.bytes) ≡ proposed (request_of asking.bytes)
  unfolding after
  same_row =
      let there = stayed.place ∙ in_place in
      sym (same_terms_lem _ _ refl refl (ap (stands_with (proposed (request_of committing.bytes))) (sym there) ∙ stood))

  -- every accepted call in between is an ask, the commit gives the number that its ask gave, and registers the row that was asked for
  pub commit_of_its_ask : CommittedAsAsked step b asking between committing
  unfolding after
  commit_of_its_ask = record { only_asks = stayed.only; same_answer = same_outcome; same_row = same_row }

-- ---- what clears asks

-- the kind of an accepted call is an ask's where its record says so
says_ask : {b : Book} {c : Call} → Passed b c → call_kind c one_of (ask ∷ []) ≡ eqb (field_in c.bytes 0) (kind_number ask)
says_ask {c} p = or-false _ ∙ ap (λ (n : ℕ). eqb n (kind_number ask)) (bytes_kind c.bytes p.read).1

module _ (b : Book) (c : Call) where
  -- where asks are cleared the call leaves the changed book without them
  pub cleared_step : clears_asks c.bytes (step b c).outcome ≡ true → (step b c).book ≡ with_asks (uncleared b c).book no_asks
  unfolding uncleared
  cleared_step h = go (refusal b c) refl
    where
      go : (o : Option Refusal) → refusal b c ≡ o → (step b c).book ≡ with_asks (uncleared b c).book no_asks
      go (Some r) e = let z : false ≡ true = rw (refused_keeps b c r e).outcome at h in let y : ◌≡◌ {A = ℕ} 0 1 = cc in absurd (omega arith)
      go None e =
          let w = passed b c e in
          let other : call_kind c one_of (ask ∷ []) ≡ false = says_ask w ∙ not-true _ (rw w.outcome at h) in
          w.book ∙ rw (e, other)

  -- else the changed book itself
  pub uncleared_step : clears_asks c.bytes (step b c).outcome ≡ false → (step b c).book ≡ (uncleared b c).book
  unfolding uncleared
  uncleared_step h = go (refusal b c) refl
    where
      go : (o : Option Refusal) → refusal b c ≡ o → (step b c).book ≡ (uncleared b c).book
      go (Some r) e = (refused_keeps b c r e).book ∙ rw e
      go None e =
          let w = passed b c e in
          let asks : call_kind c one_of (ask ∷ []) ≡ true = says_ask w ∙ not-false _ (rw w.outcome at h) in
          w.book ∙ rw (e, asks)

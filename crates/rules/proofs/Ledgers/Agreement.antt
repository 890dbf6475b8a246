-- The ledger agrees with the book after any list of calls: an accepted call changes both alike, a refused one neither. The copy that undo
-- puts back is the part that the book saved, and no schedule comes while a batch is open.
use Rattle.std.specs.Prelude.{Option, None, Some}
use Prim.Native.Nat.{ℕ}
use mathlib.Core.Path.{◌≡◌, refl, sym, ap, ◌∙◌}
use mathlib.Core.Bool.{true, false}
use mathlib.Core.Logic.{◌⊎◌, inl, inr}
use mathlib.Core.List.{List, [], ◌∷◌, ◌++◌, map}
use native.Mathlib.Omega.{arith}
use Rattle.rules.specs.declared.Schedule.{Schedule}
use Rattle.rules.specs.declared.Request.{Request}
use Rattle.rules.specs.Basics.{total, nth, Each, nil, cons}
use Rattle.rules.specs.Books.{Part, Book, no_row}
use Rattle.rules.specs.Opening.{opened}
use Rattle.rules.specs.Requests.{Kind, register, confirm, withdraw, guarantee, open_batch, undo, keep, close_gate, schedule, settle, strip, ask, commit, kind_number, kind_of, first_of}
use Rattle.rules.specs.Registration.{moved, proposed, confirms}
use Rattle.rules.specs.Calls.{Call, call_kind, call_requests, changed, cleared_by, number_from, confirmed_number, scheduled, ◌one_of◌, adding, checked_as, input_checks, state_checks, step, apply, add_rows}
use Rattle.rules.specs.Lists.{accepts, after, runs, heard}
use Rattle.rules.specs.Ledger.{Page, Ledger, blank, new_ledger, trade_of, page_after, feed, feed_each, fed, fed_all, traded, ledger_after}
use Rattle.rules.proofs.Basics.Searches.{each_nth, each_any, each_map, each_image}
use Rattle.rules.proofs.Checks.Clearing.{Clear}
use Rattle.rules.proofs.Checks.KindTables.{kind_again}
use Rattle.rules.proofs.Checks.Passed.{Asked, request_kind, first_kind, Passed, Kept, cleared_either, passed_asked, step_cases, passed_11, passed_12, passed_13, passed_16_confirm}
use Rattle.rules.proofs.Rows.RowTests.{passed_confirm, passed_withdraw}
use Rattle.rules.proofs.Ledgers.Entries.{entries_from}
use Rattle.rules.proofs.Ledgers.Ranged.{Ranged, confirm_side, opened_ranged, step_ranged}
use Rattle.rules.proofs.Ledgers.PageAgreement.{SameTrade, same_trade, PartAgrees, entered_all, entered_schedules, rows_added_agrees, confirmed_agrees, withdrawn_agrees, guaranteed_agrees, closed_agrees, scheduled_agrees}

-- ---- what agrees

-- while a batch is open, in phase 1, the copy is the saved part with the schedules that stand
pub record CopyAgrees (now : ℕ) (xs : List Schedule) (p : Part) (g : Page) : Type 0 where
  pub phase : now ≡ 1
  pub schedules : xs ≡ g.schedules
  pub part : PartAgrees p g

abbrev pub SavedAgrees : ℕ → List Schedule → Option Part → Page → Type 0
SavedAgrees phase xs None g = Unit {0}
SavedAgrees phase xs (Some p) g = CopyAgrees phase xs p g

pub record Agrees (b : Book) (l : Ledger) : Type 0 where
  pub setup : b.setup ≡ l.setup
  pub part : PartAgrees b.part l.page
  pub schedules : b.schedules ≡ l.page.schedules
  pub saved : SavedAgrees b.phase b.schedules b.saved l.copy

pub opened_agrees : (s : List ℕ) → Agrees (opened s) (new_ledger s)
unfolding opened new_ledger blank moved traded total entries_from
opened_agrees s =
    record {
      setup = refl;
      part =
          record { guarantees = refl; pending = refl; next_number = refl; bought = λ a h. refl; sold = λ a h. refl };
      schedules = refl;
      saved = tt;
    }

-- ---- each kind

-- in phase 2 no batch is open
saved_later : (phase : ℕ) (xs ys : List Schedule) (o : Option Part) (g : Page) (after : ℕ) → phase ≡ 2
    → SavedAgrees phase xs o g → SavedAgrees after ys o g
saved_later phase xs ys None g after e s = tt
saved_later phase xs ys (Some p) g after e s = absurd (omega (arith, s.phase))

-- nor when the gate closes
saved_none : (phase : ℕ) (xs : List Schedule) (o : Option Part) (g : Page) → o ≡ None → SavedAgrees phase xs o g
saved_none phase xs None g e = tt
saved_none phase xs (Some p) g e = let z : ◌≡◌ {A = ℕ} 0 1 = cc in absurd (omega arith)

confirmed-trade : (b : Book) (c : Call) (qs : List Request) → Asked confirm qs → Clear (input_checks b c confirm qs)
    → Clear (state_checks b confirm qs) → Ranged b
    → SameTrade (nth b.part.rows (confirmed_number b (first_of qs)) no_row) (trade_of (first_of qs))
confirmed-trade b c qs a i h r =
    let x = passed_confirm b qs h in
    let p = each_nth no_row (confirmed_number b (first_of qs)) r.rows x.low x.high in
    same_trade (first_of qs) _ x.row x.terms p.side_low p.side_high (confirm_side b c qs a i)

undone : (phase : ℕ) (xs : List Schedule) (o : Option Part) (p : Part) (g : Page) → o ≡ Some p → SavedAgrees phase xs o g
    → CopyAgrees phase xs p g
undone phase xs o p g e s = rw e at s

-- rows that are proposed, entered one after the other
abbrev entered_for : List Request → Ledger → Ledger
entered_for qs l = record { setup = l.setup; page = entered_all l.page (map proposed qs); copy = l.copy }

-- a request that enters its row
abbrev Enters : Request → Type 0
Enters q = (l : Ledger) → feed (kind_of q.kind) q l ≡ entered_for (q ∷ []) l

-- what adds rows brings such requests: registers and commits
entry_kind : (k : Kind) → k one_of adding ≡ true → (q : Request) (l : Ledger) → feed (kind_of (request_kind k)) q l ≡ entered_for (q ∷ []) l
unfolding feed page_after
entry_kind register e q l = refl
entry_kind strip e q l = refl
entry_kind commit e q l = refl
entry_kind confirm e q l = cc
entry_kind withdraw e q l = cc
entry_kind guarantee e q l = cc
entry_kind open_batch e q l = cc
entry_kind undo e q l = cc
entry_kind keep e q l = cc
entry_kind close_gate e q l = cc
entry_kind schedule e q l = cc
entry_kind settle e q l = cc
entry_kind ask e q l = cc

entering : (k : Kind) {qs : List Request} → k one_of adding ≡ true → Asked k qs → Each Enters qs
entering k e a = each_map (λ q same l. ap (λ (n : ℕ). feed (kind_of n) q l) same ∙ entry_kind k e q l) a.kinds

all_entered : {qs : List Request} (l : Ledger) → Each Enters qs → feed_each qs l ≡ entered_for qs l
unfolding feed_each
all_entered l nil = refl
all_entered l (cons {x = q} e es) = rw (e l) (all_entered (entered_for (q ∷ []) l) es)

-- registers, a strip's rows, and commits
entered_agrees : (b : Book) (qs : List Request) (l : Ledger) → Each Enters qs → Agrees b l
    → Agrees (apply (add_rows (map proposed qs)) b) (feed_each qs l)
unfolding apply
entered_agrees b qs l enter g =
    let xs = entered_schedules l.page (map proposed qs) in
    rw (all_entered l enter) (record {
      setup = g.setup;
      part = rows_added_agrees b.part l.page (each_image proposed (each_any qs (λ q. refl))) g.part;
      schedules = g.schedules ∙ sym xs;
      saved = g.saved;
    })

-- any other call is one request
single_fed : (k : Kind) (qs : List Request) (l : Ledger) → k one_of (strip ∷ []) ≡ false → Asked k qs → feed_each qs l ≡ feed k (first_of qs) l
unfolding feed_each
single_fed k qs l e a =
    let kind : (first_of qs).kind ≡ kind_number k = first_kind a ∙ rw e in
    ap (λ (xs : List Request). feed_each xs l) (a.alone e)
    ∙ ap (λ (n : ℕ). feed (kind_of n) (first_of qs) l) kind
    ∙ ap (λ (j : Kind). feed j (first_of qs) l) (kind_again k)

change_agrees : (k : Kind) (b : Book) (c : Call) (qs : List Request) (l : Ledger) → Asked k qs → Clear (input_checks b c (checked_as k) qs)
    → Clear (state_checks b (checked_as k) qs) → Ranged b → Agrees b l → Agrees (changed k b qs) (feed_each qs l)
unfolding apply feed page_after confirms
change_agrees register b c qs l a i h r g = entered_agrees b qs l (entering register refl a) g
change_agrees strip b c qs l a i h r g = entered_agrees b qs l (entering strip refl a) g
change_agrees commit b c qs l a i h r g = entered_agrees b qs l (entering commit refl a) g
change_agrees ask b c qs l a i h r g =
    rw (single_fed ask qs l refl a) (record { setup = g.setup; part = g.part; schedules = g.schedules; saved = g.saved })
change_agrees confirm b c qs l a i h r g =
    let found = passed_16_confirm b qs h in
    let q : Request = first_of qs in
    rw (single_fed confirm qs l refl a) (record {
      setup = g.setup;
      part =
          confirmed_agrees b.part l.page g.part q.other q.account q.code (confirmed_number b q) found.0 (trade_of q)
          (ap number_from found.1) found.1 (passed_confirm b qs h).row.is_pending (confirmed-trade b c qs a i h r);
      schedules = g.schedules;
      saved = g.saved;
    })
change_agrees withdraw b c qs l a i h r g =
    rw (single_fed withdraw qs l refl a) (record {
      setup = g.setup;
      part = withdrawn_agrees b.part l.page g.part (first_of qs).number (passed_withdraw b qs h).0;
      schedules = g.schedules;
      saved = g.saved;
    })
change_agrees guarantee b c qs l a i h r g =
    rw (single_fed guarantee qs l refl a) (record {
      setup = g.setup;
      part = guaranteed_agrees b.part l.page g.part (first_of qs).operator (first_of qs).guarantee;
      schedules = g.schedules;
      saved = g.saved;
    })
change_agrees open_batch b c qs l a i h r g =
    rw (single_fed open_batch qs l refl a) (record {
      setup = g.setup;
      part = g.part;
      schedules = g.schedules;
      saved = record { phase = passed_11 b qs open_batch h; schedules = g.schedules; part = g.part };
    })
change_agrees undo b c qs l a i h r g =
    let (p, o) = passed_13 b qs undo refl h in
    let s = undone b.phase b.schedules b.saved p l.copy o g.saved in
    rw (single_fed undo qs l refl a) (record { setup = g.setup; part = rw o s.part; schedules = s.schedules; saved = tt })
change_agrees keep b c qs l a i h r g =
    rw (single_fed keep qs l refl a) (record { setup = g.setup; part = g.part; schedules = g.schedules; saved = tt })
change_agrees close_gate b c qs l a i h r g =
    rw (single_fed close_gate qs l refl a) (record {
      setup = g.setup;
      part = closed_agrees b.part l.page g.part;
      schedules = g.schedules;
      saved = saved_none 2 b.schedules b.saved l.copy (passed_12 b qs close_gate refl h);
    })
change_agrees schedule b c qs l a i h r g =
    rw (single_fed schedule qs l refl a) (record {
      setup = g.setup;
      part = scheduled_agrees b.part l.page g.part _;
      schedules = ap (λ (xs : List Schedule). xs ++ scheduled (first_of qs) ∷ []) g.schedules;
      saved = saved_later b.phase b.schedules _ b.saved l.copy b.phase (passed_11 b qs schedule h) g.saved;
    })
change_agrees settle b c qs l a i h r g =
    rw (single_fed settle qs l refl a) (record {
      setup = g.setup;
      part = g.part;
      schedules = g.schedules;
      saved = saved_later b.phase b.schedules _ b.saved l.copy 3 (passed_11 b qs settle h) g.saved;
    })

-- asks are nothing to the ledger
cleared_agrees : (k : Kind) (b : Book) (l : Ledger) → Agrees b l → Agrees (cleared_by k b) l
cleared_agrees k b l g =
    cleared_either (λ x. Agrees x l) k b g (record { setup = g.setup; part = g.part; schedules = g.schedules; saved = g.saved })

-- ---- a call, and a list of calls

pub step_agrees : (b : Book) (c : Call) (l : Ledger) → Ranged b → Agrees b l
    → Agrees (step b c).book (fed c.bytes (accepts step b c) l)
unfolding fed
step_agrees b c l r g = go (step_cases b c)
  where
    go : Kept b c ⊎ Passed b c → Agrees (step b c).book (fed c.bytes (accepts step b c) l)
    go (inl kept) = rw (kept.book, kept.outcome) g
    go (inr p) =
        rw (p.book, p.outcome) (cleared_agrees (call_kind c) _ _
        (change_agrees (call_kind c) b c (call_requests c) l (passed_asked p) p.input p.state r g))

pub list_agrees : (b : Book) (l : Ledger) (cs : List Call) → Ranged b → Agrees b l → Agrees (after step b cs) (fed_all l (heard step b cs))
unfolding after fed_all heard runs
list_agrees b l [] r g = g
list_agrees b l (c ∷ cs) r g = list_agrees (step b c).book _ cs (step_ranged b c r) (step_agrees b c l r g)

-- a day's ledger, fed only the set-up, the records and whether each was accepted, agrees with its book after any list of calls
pub day_agrees : (s : List ℕ) (cs : List Call) → Agrees (after step (opened s) cs) (ledger_after step s (opened s) cs)
day_agrees s cs = list_agrees (opened s) (new_ledger s) cs (opened_ranged s) (opened_agrees s)

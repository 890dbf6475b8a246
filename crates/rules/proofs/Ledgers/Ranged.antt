-- Every book that calls make has rows between its accounts and schedules on its points: a call adds only what passed the test of ranges,
-- and no other call changes a row's parties or side.
use Rattle.std.specs.Prelude.{Option, None, Some}
use Prim.Native.Nat.{ℕ, ◌≤◌}
use mathlib.Core.Path.{◌≡◌, refl}
use mathlib.Core.Logic.{◌⊎◌, inl, inr}
use mathlib.Core.List.{List, [], ◌∷◌, map}
use mathlib.Core.Bool.{true}
use native.Mathlib.Omega.{arith}
use Rattle.rules.specs.declared.Counts.{Counts}
use Rattle.rules.specs.declared.Row.{Row}
use Rattle.rules.specs.declared.Schedule.{Schedule}
use Rattle.rules.specs.declared.Request.{Request}
use Rattle.rules.specs.Basics.{bit, Each, nil}
use Rattle.rules.specs.Books.{Part, Book, account_count, point_count, counts_of}
use Rattle.rules.specs.Opening.{opened}
use Rattle.rules.specs.Requests.{Kind, register, confirm, withdraw, guarantee, open_batch, undo, keep, close_gate, schedule, settle, strip, ask, commit, kind_number, wanted_map, in_range, faulty_bit, first_of}
use Rattle.rules.specs.Registration.{with_status, proposed}
use Rattle.rules.specs.Calls.{Call, call_kind, call_requests, Change, add_rows, set_status, set_guarantee, save_part, restore_part, drop_saved, shut_gate, add_schedule, end_day, stand_ask, scheduled, change, restored, apply, cleared_by, checked_as, input_checks, step}
use Rattle.rules.specs.Lists.{after}
use Rattle.rules.proofs.Basics.Tests.{within_true}
use Rattle.rules.proofs.Basics.Searches.{each_snoc, each_append, each_both, each_image}
use Rattle.rules.proofs.Rows.RowChanges.{each_mark, each_closed}
use Rattle.rules.proofs.Checks.Clearing.{Clear}
use Rattle.rules.proofs.Checks.Passed.{field_in_range, passed_6, Asked, TradeFields, trade_fields, first_has, first_kind, Passed, Kept, cleared_either, passed_asked, step_cases}
use Rattle.rules.proofs.Rows.Balanced.{Parties, parties}

-- ---- rows between accounts

parties_status : (n status : ℕ) (r : Row) → Parties n r → Parties n (with_status status r)
parties_status n status r p =
    record {
      buyer_low = p.buyer_low;
      buyer_high = p.buyer_high;
      seller_low = p.seller_low;
      seller_high = p.seller_high;
      side_low = p.side_low;
      side_high = p.side_high;
    }

-- ---- what a request in range names

module _ (n : Counts) (q : Request) (f : faulty_bit n q ≡ None) where
  pub account_in_range : bit (wanted_map q.kind) 1 ≡ true → (1 ≤ q.account) × (q.account ≤ n.accounts)
  unfolding in_range
  account_in_range e = (within_true 1 q.account n.accounts).0 (field_in_range n q 1 f (omega arith) e)

  pub other_in_range : bit (wanted_map q.kind) 2 ≡ true → (1 ≤ q.other) × (q.other ≤ n.accounts)
  unfolding in_range
  other_in_range e = (within_true 1 q.other n.accounts).0 (field_in_range n q 2 f (omega arith) e)

  pub side_in_range : bit (wanted_map q.kind) 4 ≡ true → (1 ≤ q.side) × (q.side ≤ 2)
  unfolding in_range
  side_in_range e = (within_true 1 q.side 2).0 (field_in_range n q 4 f (omega arith) e)

  pub point_in_range : bit (wanted_map q.kind) 11 ≡ true → (1 ≤ q.point) × (q.point ≤ n.points)
  unfolding in_range
  point_in_range e = (within_true 1 q.point n.points).0 (field_in_range n q 11 f (omega arith) e)

-- the field of a bit stands in a request of the kind
bit_stands : (k : Kind) (q : Request) (i : ℕ) → q.kind ≡ kind_number k → bit (wanted_map (kind_number k)) i ≡ true
    → bit (wanted_map q.kind) i ≡ true
bit_stands k q i e h = rw e h

proposed_parties : (n : Counts) (q : Request) → TradeFields q → faulty_bit n q ≡ None → Parties n.accounts (proposed q)
unfolding bit
proposed_parties n q e f =
    parties n.accounts (proposed q)
    (account_in_range n q f (rw e refl))
    (other_in_range n q f (rw e refl))
    (side_in_range n q f (rw e refl))

-- an accepted confirm has a side
pub confirm_side : (b : Book) (c : Call) (qs : List Request) → Asked confirm qs → Clear (input_checks b c confirm qs)
    → (1 ≤ (first_of qs).side) × ((first_of qs).side ≤ 2)
unfolding bit
confirm_side b c qs a i =
    side_in_range (counts_of b.setup) (first_of qs) (first_has a (passed_6 b c qs confirm i)) (bit_stands confirm (first_of qs) 4 (first_kind a) refl)

-- ---- books

-- the schedule is on a point 1 to n
pub record OnPoint (n : ℕ) (x : Schedule) : Type 0 where
  pub low : 1 ≤ x.point
  pub high : x.point ≤ n

scheduled_on_point : (b : Book) (c : Call) (qs : List Request) → Asked schedule qs → Clear (input_checks b c schedule qs)
    → OnPoint (point_count b.setup) (scheduled (first_of qs))
unfolding bit
scheduled_on_point b c qs a i =
    let p = point_in_range (counts_of b.setup) (first_of qs) (first_has a (passed_6 b c qs schedule i)) (bit_stands schedule (first_of qs) 11 (first_kind a) refl) in
    record { low = p.0; high = p.1 }

abbrev pub SavedParties : ℕ → Option Part → Type 0
SavedParties n None = Unit {0}
SavedParties n (Some p) = Each (Parties n) p.rows

-- rows and saved rows are between the book's accounts, schedules on its points
pub record Ranged (b : Book) : Type 0 where
  pub rows : Each (Parties (account_count b.setup)) b.part.rows
  pub saved : SavedParties (account_count b.setup) b.saved
  pub schedules : Each (OnPoint (point_count b.setup)) b.schedules

restored_parties : (n : ℕ) (o : Option Part) (p : Part) → SavedParties n o → Each (Parties n) p.rows
    → Each (Parties n) (restored o p).rows
restored_parties n None p s e = e
restored_parties n (Some x) p s e = s

-- what a change adds is between the book's accounts, or on one of its points
abbrev Adds : Book → Change → Type 0
Adds b (add_rows rows) = Each (Parties (account_count b.setup)) rows
Adds b (set_status number status) = Unit {0}
Adds b (set_guarantee o g) = Unit {0}
Adds b save_part = Unit {0}
Adds b restore_part = Unit {0}
Adds b drop_saved = Unit {0}
Adds b shut_gate = Unit {0}
Adds b (add_schedule x) = OnPoint (point_count b.setup) x
Adds b end_day = Unit {0}
Adds b (stand_ask r) = Unit {0}

apply_ranged : (x : Change) (b : Book) → Adds b x → Ranged b → Ranged (apply x b)
unfolding apply
apply_ranged (add_rows rows) b new g = record { rows = each_append g.rows new; saved = g.saved; schedules = g.schedules }
apply_ranged (set_status number status) b new g =
    record { rows = each_mark number status (parties_status _ status) g.rows; saved = g.saved; schedules = g.schedules }
apply_ranged (set_guarantee o x) b new g = record { rows = g.rows; saved = g.saved; schedules = g.schedules }
apply_ranged save_part b new g = record { rows = g.rows; saved = g.rows; schedules = g.schedules }
apply_ranged restore_part b new g =
    record { rows = restored_parties _ b.saved b.part g.saved g.rows; saved = tt; schedules = g.schedules }
apply_ranged drop_saved b new g = record { rows = g.rows; saved = tt; schedules = g.schedules }
apply_ranged shut_gate b new g = record { rows = each_closed (parties_status _ 3) g.rows; saved = g.saved; schedules = g.schedules }
apply_ranged (add_schedule x) b new g = record { rows = g.rows; saved = g.saved; schedules = each_snoc g.schedules new }
apply_ranged end_day b new g = record { rows = g.rows; saved = g.saved; schedules = g.schedules }
apply_ranged (stand_ask r) b new g = record { rows = g.rows; saved = g.saved; schedules = g.schedules }

-- each row that is proposed
rows_parties : (n : Counts) {qs : List Request} → Each TradeFields qs → Each (λ q. faulty_bit n q ≡ None) qs
    → Each (Parties n.accounts) (map proposed qs)
rows_parties n fields fine = each_image proposed (each_both (proposed_parties n) fields fine)

change_adds : (k : Kind) (b : Book) (c : Call) (qs : List Request) → Asked k qs → Clear (input_checks b c (checked_as k) qs)
    → Adds b (change k b qs)
change_adds register b c qs a i = rows_parties (counts_of b.setup) (trade_fields register refl a) (passed_6 b c qs register i)
change_adds strip b c qs a i = rows_parties (counts_of b.setup) (trade_fields strip refl a) (passed_6 b c qs strip i)
change_adds commit b c qs a i = rows_parties (counts_of b.setup) (trade_fields commit refl a) (passed_6 b c qs commit i)
change_adds ask b c qs a i = tt
change_adds confirm b c qs a i = tt
change_adds withdraw b c qs a i = tt
change_adds guarantee b c qs a i = tt
change_adds open_batch b c qs a i = tt
change_adds undo b c qs a i = tt
change_adds keep b c qs a i = tt
change_adds close_gate b c qs a i = tt
change_adds schedule b c qs a i = scheduled_on_point b c qs a i
change_adds settle b c qs a i = tt

pub opened_ranged : (s : List ℕ) → Ranged (opened s)
unfolding opened
opened_ranged s = record { rows = nil; saved = tt; schedules = nil }

-- asks may be cleared
cleared_ranged : (k : Kind) (b : Book) → Ranged b → Ranged (cleared_by k b)
cleared_ranged k b g = cleared_either Ranged k b g (record { rows = g.rows; saved = g.saved; schedules = g.schedules })

pub step_ranged : (b : Book) (c : Call) → Ranged b → Ranged (step b c).book
step_ranged b c g = go (step_cases b c)
  where
    go : Kept b c ⊎ Passed b c → Ranged (step b c).book
    go (inl kept) = rw kept.book g
    go (inr p) =
        rw p.book (cleared_ranged (call_kind c) _
        (apply_ranged (change (call_kind c) b (call_requests c)) b (change_adds (call_kind c) b c (call_requests c) (passed_asked p) p.input) g))

pub last_ranged : (b : Book) (cs : List Call) → Ranged b → Ranged (after step b cs)
unfolding after
last_ranged b [] g = g
last_ranged b (c ∷ cs) g = last_ranged (step b c).book cs (step_ranged b c g)

-- Each kind brings what its change needs: the checks that an accepted call passed say so of a sound book.
use Rattle.std.specs.Prelude.{None}
use Prim.Native.Nat.{ℕ, ◌^◌, ◌<◌}
use mathlib.Core.Path.{◌≡◌, refl, ◌∙◌}
use mathlib.Core.List.{List, ◌++◌, map}
use mathlib.Core.Bool.{true, false}
use native.Mathlib.Omega.{arith}
use lib.ListN.{get_or}
use borrow.Author.Tests.{leb-true}
use Rattle.rules.specs.declared.Request.{Request}
use Rattle.rules.specs.Basics.{bit, Each, nil, cons}
use Rattle.rules.specs.Limits.{most_energy, most_price, most_guarantee}
use Rattle.rules.specs.Books.{Setup, Book, part_rows, operator_of, registration_phase, counts_of, periods, account_count, point_count}
use Rattle.rules.specs.Requests.{Kind, register, confirm, withdraw, guarantee, open_batch, undo, keep, close_gate, schedule, settle, strip, ask, commit, kind_number, wanted_map, first_of, field_count, in_range, faulty_bit, same_accounts}
use Rattle.rules.specs.Registration.{proposed, broken_hour, covered}
use Rattle.rules.specs.Calls.{Call, confirmed_number, scheduled, change, add_rows, apply, ◌one_of◌, adding, checked_as, phase_of, input_checks, state_checks}
use Rattle.rules.proofs.Basics.Tests.{within_true}
use Rattle.rules.proofs.Checks.Clearing.{Clear}
use Rattle.rules.proofs.Checks.Passed.{Asked, TradeFields, trade_fields, first_has, first_kind, field_in_range, two_accounts, passed_6, passed_6_proposer, passed_7, passed_11, passed_12, passed_14, passed_22, passed_15, passed_18, passed_19, passed_20}
use Rattle.rules.proofs.Rows.RowTests.{passed_confirm, passed_withdraw}
use Rattle.image.proofs.Sound.Soundness.{SoundRow, SoundSchedule}
use Rattle.image.proofs.Sound.SoundBooks.{SoundBook}
use Rattle.image.proofs.Keeping.KeepsParts.{requests_addable, confirm_endable, withdraw_endable}
use Rattle.image.proofs.Keeping.KeepsChanges.{Allowed}

-- ---- what an accepted request's fields hold

-- each field of the kind is in range
module _ (u : Setup) (k : Kind) (q : Request) (named : q.kind ≡ kind_number k) (fine : faulty_bit (counts_of u) q ≡ None) where
  passed_field : (i : ℕ) → i < field_count → bit (wanted_map (kind_number k)) i ≡ true → get_or (in_range (counts_of u) q) i true ≡ true
  passed_field i l e = field_in_range (counts_of u) q i fine l (rw named e)

-- and so is each of a trade
trade_field : (u : Setup) (q : Request) → TradeFields q → faulty_bit (counts_of u) q ≡ None
    → (i : ℕ) → i < field_count → bit (wanted_map (kind_number register)) i ≡ true → get_or (in_range (counts_of u) q) i true ≡ true
trade_field u q fields fine i l e = field_in_range (counts_of u) q i fine l (rw fields e)

-- what register proposes is a row of the book
pub proposed_sound : (u : Setup) (q : Request) → TradeFields q → q.code < 256 ^ 8 → faulty_bit (counts_of u) q ≡ None
    → same_accounts q ≡ false → SoundRow u (proposed q)
unfolding bit in_range
proposed_sound u q fields code fine differ =
    let field = trade_field u q fields fine in
    let account = (within_true 1 q.account (account_count u)).0 (field 1 (omega arith) refl) in
    let other = (within_true 1 q.other (account_count u)).0 (field 2 (omega arith) refl) in
    let side = (within_true 1 q.side 2).0 (field 4 (omega arith) refl) in
    let first = (within_true 1 q.first (periods u)).0 (field 5 (omega arith) refl) in
    let last = (within_true q.first q.last (periods u)).0 (field 6 (omega arith) refl) in
    let quantity = (within_true 1 q.quantity.0 most_energy).0 (field 7 (omega arith) refl) in
    record {
      proposer_low = account.0;
      proposer_high = account.1;
      counterparty_low = other.0;
      counterparty_high = other.1;
      two_accounts = two_accounts q differ (rw fields);
      code_fits = code;
      side_low = side.0;
      side_high = side.1;
      first_low = first.0;
      in_order = last.0;
      last_high = last.1;
      quantity_low = quantity.0;
      quantity_high = quantity.1;
      status_low = omega arith;
      status_high = omega arith;
    }

-- what schedule adds is a schedule of the book
pub scheduled_sound : (u : Setup) (q : Request) → q.kind ≡ kind_number schedule → faulty_bit (counts_of u) q ≡ None → SoundSchedule u (scheduled q)
unfolding bit in_range
scheduled_sound u q named fine =
    let field = passed_field u schedule q named fine in
    let side = (within_true 1 q.side 2).0 (field 4 (omega arith) refl) in
    let hour = (within_true 1 q.first (periods u)).0 (field 5 (omega arith) refl) in
    let quantity = (within_true 1 q.quantity.0 most_energy).0 (field 7 (omega arith) refl) in
    let point = (within_true 1 q.point (point_count u)).0 (field 11 (omega arith) refl) in
    record {
      point_low = point.0;
      point_high = point.1;
      side_low = side.0;
      side_high = side.1;
      hour_low = hour.0;
      hour_high = hour.1;
      quantity_low = quantity.0;
      quantity_high = quantity.1;
      price_high = leb-true q.price.0 most_price (field 12 (omega arith) refl);
    }

-- ---- each kind

-- the codes of a call's requests fit their 8 bytes
abbrev pub CodesFit : List Request → Type 0
CodesFit qs = Each (λ q. q.code < 256 ^ 8) qs

-- each row that is proposed is one of the book
pub each_proposed_sound : (u : Setup) {qs : List Request} → Each TradeFields qs → CodesFit qs
    → Each (λ q. faulty_bit (counts_of u) q ≡ None) qs → Each (λ q. same_accounts q ≡ false) qs → Each (λ q. SoundRow u (proposed q)) qs
each_proposed_sound u nil nil nil nil = nil
each_proposed_sound u (cons {x = q} fields others) (cons code codes) (cons fine fines) (cons differ differs) =
    cons (proposed_sound u q fields code fine differ) (each_proposed_sound u others codes fines differs)

module _ (b : Book) (qs : List Request) (s : SoundBook b) where
  rows_sound : (k : Kind) (c : Call) → Each TradeFields qs → CodesFit qs → Clear (input_checks b c k qs)
      → Each (λ q. SoundRow b.setup (proposed q)) qs
  rows_sound k c fields codes input = each_proposed_sound b.setup fields codes (passed_6 b c qs k input) (passed_7 b c qs k input)

  -- rows that are added: a register's, a strip's, a commit's
  rows_allowed : (k : Kind) (c : Call) → k one_of adding ≡ true → b.phase ≡ phase_of k → phase_of k ≡ registration_phase → Each TradeFields qs → CodesFit qs
      → Clear (input_checks b c k qs) → Clear (state_checks b k qs)
      → broken_hour b.setup (b.part.rows ++ map proposed qs) (first_of qs).account ≡ None
      → covered b.setup (part_rows b.part (b.part.rows ++ map proposed qs)) (operator_of b.setup (first_of qs).account) ≡ true
      → Allowed b (add_rows (map proposed qs))
  rows_allowed k c adds at first fields codes input state margins cover = (
    at ∙ first,
    requests_addable b.setup b.part s.part_sound qs (first_of qs).account (passed_6_proposer b c qs k input) (rows_sound k c fields codes input)
        (passed_14 b qs k adds state) (passed_22 b qs k adds state) (passed_15 b qs k adds state) margins cover,
  )

  pub register_allowed : (c : Call) → Each TradeFields qs → CodesFit qs → Clear (input_checks b c register qs)
      → Clear (state_checks b register qs) → Allowed b (change register b qs)
  unfolding apply
  register_allowed c fields codes input state =
      rows_allowed register c refl (passed_11 b qs register state) refl fields codes input state (passed_18 b qs register refl state) (passed_19 b qs register refl state)

  pub strip_allowed : (c : Call) → Each TradeFields qs → CodesFit qs → Clear (input_checks b c strip qs)
      → Clear (state_checks b strip qs) → Allowed b (change strip b qs)
  unfolding apply
  strip_allowed c fields codes input state =
      rows_allowed strip c refl (passed_11 b qs strip state) refl fields codes input state (passed_18 b qs strip refl state) (passed_19 b qs strip refl state)

  pub commit_allowed : (c : Call) → Each TradeFields qs → CodesFit qs → Clear (input_checks b c commit qs)
      → Clear (state_checks b commit qs) → Allowed b (change commit b qs)
  unfolding apply
  commit_allowed c fields codes input state =
      rows_allowed commit c refl (passed_11 b qs commit state) refl fields codes input state (passed_18 b qs commit refl state) (passed_19 b qs commit refl state)

  -- what is asked for is a row of the book
  pub ask_allowed : (c : Call) → Asked ask qs → CodesFit qs → Clear (input_checks b c register qs) → Allowed b (change ask b qs)
  ask_allowed c asked codes input =
      record { own = refl; waits = refl; row_sound = first_has asked (rows_sound register c (trade_fields ask refl asked) codes input) }

  pub confirm_allowed : Clear (state_checks b confirm qs) → Allowed b (change confirm b qs)
  unfolding apply
  confirm_allowed state =
      let q : Request = first_of qs in
      let row = (passed_confirm b qs state).row in (
        passed_11 b qs confirm state,
        confirm_endable b.setup b.part s.part_sound (confirmed_number b q) q.account row.is_pending row.counterparty
            (passed_18 b qs confirm refl state) (passed_19 b qs confirm refl state),
      )

  pub withdraw_allowed : Clear (state_checks b withdraw qs) → Allowed b (change withdraw b qs)
  withdraw_allowed state =
      (passed_11 b qs withdraw state, withdraw_endable b.setup b.part s.part_sound (first_of qs).number (passed_withdraw b qs state).0)

  pub guarantee_allowed : (c : Call) → Asked guarantee qs → Clear (input_checks b c guarantee qs)
      → Clear (state_checks b guarantee qs) → Allowed b (change guarantee b qs)
  unfolding apply bit in_range
  guarantee_allowed c asked input state =
      let q : Request = first_of qs in
      let fine = first_has asked (passed_6 b c qs guarantee input) in
      let high = leb-true q.guarantee.0 most_guarantee (passed_field b.setup guarantee q (first_kind asked) fine 10 (omega arith) refl) in
      (passed_11 b qs guarantee state, record { high = high; backed = passed_19 b qs guarantee refl state })

  pub schedule_allowed : (c : Call) → Asked schedule qs → Clear (input_checks b c schedule qs)
      → Clear (state_checks b schedule qs) → Allowed b (change schedule b qs)
  schedule_allowed c asked input state =
      record {
        later = λ first. omega (arith, passed_11 b qs schedule state);
        few = passed_20 b qs state;
        is_sound = scheduled_sound b.setup (first_of qs) (first_kind asked) (first_has asked (passed_6 b c qs schedule input));
      }

  pub settle_allowed : Clear (state_checks b settle qs) → Allowed b (change settle b qs)
  settle_allowed state first = omega (arith, passed_11 b qs settle state)

pub change_allowed : (k : Kind) (b : Book) (c : Call) (qs : List Request) → Asked k qs → CodesFit qs → SoundBook b
    → Clear (input_checks b c (checked_as k) qs) → Clear (state_checks b (checked_as k) qs) → Allowed b (change k b qs)
change_allowed register b c qs asked codes s input state = register_allowed b qs s c (trade_fields register refl asked) codes input state
change_allowed strip b c qs asked codes s input state = strip_allowed b qs s c (trade_fields strip refl asked) codes input state
change_allowed commit b c qs asked codes s input state = commit_allowed b qs s c (trade_fields commit refl asked) codes input state
change_allowed ask b c qs asked codes s input state = ask_allowed b qs s c asked codes input
change_allowed confirm b c qs asked codes s input state = confirm_allowed b qs s state
change_allowed withdraw b c qs asked codes s input state = withdraw_allowed b qs s state
change_allowed guarantee b c qs asked codes s input state = guarantee_allowed b qs s c asked input state
change_allowed open_batch b c qs asked codes s input state = passed_11 b qs open_batch state
change_allowed undo b c qs asked codes s input state = passed_11 b qs undo state
change_allowed keep b c qs asked codes s input state = passed_11 b qs keep state
change_allowed close_gate b c qs asked codes s input state = passed_12 b qs close_gate refl state
change_allowed schedule b c qs asked codes s input state = schedule_allowed b qs s c asked input state
change_allowed settle b c qs asked codes s input state = settle_allowed b qs s state

-- A row confirmed: what it is by being named; what it adds to an exposure once it is a trade; the tests of confirm in the order of their
-- numbers, each on the book as it would be; and its status with the nets of both parties as all that is written.
use Rattle.std.specs.Prelude.{Option, None, Some}
use Rattle.std.proofs.Common.{◌≡◌, ℕ, zero, suc, ◌+◌, ◌-◌, ◌≤◌, Bool, true, false, not, eqb, leb, List, [], ◌∷◌, get_or, sym, refl, ap, ◌∙◌, arith, ne_eqb}
use mathlib.Core.Bool.{and-false}
use native.Mathlib.Nat.{sub-zero}
use Rattle.rules.specs.declared.Row.{Row}
use Rattle.rules.specs.declared.Request.{Request}
use Rattle.rules.specs.declared.Refusal.{Refusal}
use Rattle.rules.specs.declared.Refusal.TheVariants.{NoSuchRow, NotMirrored, MarginBroken, Uncovered}
use Rattle.rules.specs.Basics.{nth, counting}
use Rattle.rules.specs.Limits.{most_hours}
use Rattle.rules.specs.Verdicts.{accepted, refused, outcome_of}
use Rattle.rules.specs.Books.{Setup, Book, no_row, operator_of, periods, margins_at}
use Rattle.rules.specs.Requests.{confirm}
use Rattle.rules.specs.Registration.{pending, with_status, mark, alike, confirms, mirrors, account_hour, after_trade, keeps_margins, broken_hour, broken_by, exposure, covered}
use Rattle.rules.specs.Calls.{number_from, confirmed_number, changed, apply, given}
use Rattle.rules.proofs.Basics.Searches.{index_first}
use Rattle.rules.proofs.Checks.Clearing.{never_both}
use Rattle.rules.proofs.Rows.RowTests.{Alike, alike_true, passed_confirm}
use Rattle.rules.proofs.Checks.Passed.{passed_16_confirm}
use Rattle.rules.proofs.Rows.AccountHours.{pending_inside, hour_takes_confirmed}
use Rattle.image.specs.Valid.{is_sound, book_in}
use Rattle.image.specs.Tables.{Tabled}
use Rattle.image.proofs.Sound.Soundness.{SoundRow}
use Rattle.image.proofs.Keeping.Easing.{sale_eases_operators}
use Rattle.book.specs.Members.{IsAccount, IsRow, numbered_row}
use Rattle.book.specs.Worth.{sale_worth, TradeInRange}
use Rattle.book.specs.Kinds.{decided, outcome_on}
use Rattle.book.proofs.StateLaws.{book_is_sound}
use Rattle.book.proofs.BookRows.{sound_tabled, numbered_sound}
use Rattle.book.proofs.WorthLaws.{with_confirmed}
use Rattle.book.proofs.Answers.{decided_clear, Answered}
use Rattle.registration.specs.Confirming.{number_alike, some_number, Confirming, WaitsIn}
use Rattle.registration.specs.Margins.{AccountTrade}
use Rattle.registration.specs.Cover.{exposure_with_trade, covered_with_trade}
use Rattle.registration.specs.Positions.{nets_moved, marked_confirmed}
use Rattle.registration.proofs.Decisions.{no_row_to_confirm, terms_differ, confirm_breaks, confirm_uncovered, confirm_passes}
use Rattle.registration.proofs.Acceptances.{confirmed_answered}
use Rattle.registration.proofs.SearchLaws.{find_cong}
use Rattle.registration.proofs.MarginLaws.{found_hour, found_nowhere}
use Rattle.registration.proofs.CoverLaws.{covered_at, still_covered, ended_row_in_range}

-- ---- the answer by what is decided

module _ (b : Book) (q : Request) where
  pub refusal_answers : (r : Refusal) → decided confirm b q ≡ Some r → refused r ≡ outcome_on confirm b q
  unfolding outcome_on given
  refusal_answers r e = rw e

  pub acceptance_answers : (n : ℕ) → decided confirm b q ≡ None → n ≡ confirmed_number b q → accepted n ≡ outcome_on confirm b q
  unfolding outcome_on given
  acceptance_answers n e g = rw (e, g)

  pub refusal_decided : (r : Refusal) → refused r ≡ outcome_on confirm b q → decided confirm b q ≡ Some r
  unfolding outcome_on given
  refusal_decided r e = go (decided confirm b q) e
    where
      go : (o : Option Refusal) → refused r ≡ outcome_of o (confirmed_number b q) → o ≡ Some r
      go None h = absurd (never_both r _ h)
      go (Some x) h = cc

  pub acceptance_decided : (n : ℕ) → accepted n ≡ outcome_on confirm b q → (decided confirm b q ≡ None) × (n ≡ confirmed_number b q)
  unfolding outcome_on given
  acceptance_decided n e = go (decided confirm b q) e
    where
      go : (o : Option Refusal) → accepted n ≡ outcome_of o (confirmed_number b q) → (o ≡ None) × (n ≡ confirmed_number b q)
      go None h = (refl, cc)
      go (Some x) h = absurd (never_both x n (sym h))

-- ---- the row that is named

some_low : (n k : ℕ) → Some n ≡ some_number k → 1 ≤ k
some_low n zero e = cc
some_low n (suc i) e = omega arith

-- some number is the number
pub number_of_some : (n k : ℕ) → Some n ≡ some_number k → n ≡ k
number_of_some n zero e = cc
number_of_some n (suc i) e = cc

-- the hour that the confirmed row breaks is the one broken in the book as it would be
pub broken-confirmed : (u : Setup) (rows : List Row) (n a : ℕ) → pending (nth rows n no_row) ≡ true → eqb (nth rows n no_row).proposer a ≡ false
    → broken_hour u (mark n 2 rows) a ≡ broken_by u rows (with_status 2 (nth rows n no_row) ∷ []) a
unfolding broken_hour broken_by
broken-confirmed u rows n a e o =
    find_cong
    (λ h. not (keeps_margins (margins_at u a h) (account_hour (mark n 2 rows) a h)))
    (λ h. not (keeps_margins (margins_at u a h) (after_trade a h (account_hour rows a h) (with_status 2 (nth rows n no_row)))))
    (λ h. ap (λ x. not (keeps_margins (margins_at u a h) x)) (hour_takes_confirmed rows n a h e o))
    (counting (periods u) 1)

index_named : (o : Option ℕ) → 1 ≤ number_from o → (i : ℕ) × (o ≡ Some i)
index_named None l = absurd (omega arith)
index_named (Some i) l = (i, refl)

module _ (b : Book) (q : Request) (first : b.phase ≡ 1) where
  -- refusal 16: it names no row
  pub names_no_row : None ≡ some_number (confirmed_number b q) → refused NoSuchRow ≡ outcome_on confirm b q
  names_no_row e = refusal_answers b q NoSuchRow (no_row_to_confirm b q first (go (confirms b.part.rows q) e))
    where
      go : (o : Option ℕ) → None ≡ some_number (number_from o) → o ≡ None
      go None z = refl
      go (Some i) z = cc

  module _ (r : Row) (number : ℕ) (some_row : Some number ≡ some_number (confirmed_number b q)) (row : r ≡ nth b.part.rows number no_row) where
    named_number : number ≡ confirmed_number b q
    named_number = number_of_some number (confirmed_number b q) some_row

    -- refusal 17: the terms are others
    pub names_other_terms : mirrors q r ≡ false → refused NotMirrored ≡ outcome_on confirm b q
    names_other_terms w =
        let (i, named) = index_named (confirms b.part.rows q) (some_low number _ some_row) in
        refusal_answers b q NotMirrored (terms_differ b q first i named (rw (← named_number, ← row) w))

-- the number that is found is that of the row which confirm names
pub confirmed_found : (b : Book) (q : Request) → number_alike q.other q.account q.code b.part.rows ≡ confirmed_number b q
unfolding confirms
confirmed_found b q = refl

-- the row of a number is sound
row_sound : (s : List ℕ) (h : is_sound s ≡ true) (n : ℕ) (r : Row) → IsRow (book_in s) n → r ≡ numbered_row (book_in s) n → SoundRow (book_in s).setup r
row_sound s h n r own e = rw e (numbered_sound s h n own)

-- ---- a pending row, once it is confirmed

-- a pending purchase adds nothing to an exposure, so that nothing is subtracted for it
pub purchase_frees_none : (u : Setup) (o owed limit : ℕ) (r : Row) → (r.side ≡ 1 → ⊥) → leb owed limit ≡ leb (owed - sale_worth u o r) limit
unfolding sale_worth
purchase_frees_none u o owed limit r buys = rw (ne_eqb r.side 1 buys, and-false (pending r), sub-zero owed)

module _ (s : List ℕ) (r : Row) (h : is_sound s ≡ true) (w : WaitsIn (book_in s) r) where
  waiting_inside : IsRow (book_in s) w.number
  waiting_inside = pending_inside (book_in s).part.rows w.number (rw (← w.row) w.is_pending)

  waiting_sound : SoundRow (book_in s).setup r
  waiting_sound = row_sound s h w.number r waiting_inside w.row

  module _ (trade : Row) (e : trade ≡ with_status 2 r) where
    -- as a trade it is in range, and can be added
    pub account-trade : (a : ℕ) → IsAccount (book_in s) a → AccountTrade (book_in s) a trade
    account-trade a own =
        let sound = waiting_sound in
        rw e (record {
          account_known = own;
          quantity_high = sound.quantity_high;
          first_low = sound.first_low;
          in_order = sound.in_order;
          last_high = sound.last_high;
        })

    pub trade-in_range : TradeInRange (book_in s).setup trade
    trade-in_range = ended_row_in_range (book_in s).setup trade (rw e waiting_sound.quantity_high) (rw e)

  -- once the row is confirmed the exposure is that of the rows where it is marked so
  exposure_with_trade_lem : (o : ℕ) → exposure_with_trade (book_in s) r o ≡ exposure (book_in s).setup (mark w.number 2 (book_in s).part.rows) o
  exposure_with_trade_lem o =
      omega (
        arith,
        with_confirmed (book_in s).setup o (book_in s).part.rows r w.number waiting_inside.0 waiting_inside.1 w.row w.is_pending
            (waiting_sound.proposer_low, waiting_sound.proposer_high),
      )

  -- a sale that is confirmed leaves every operator covered
  pub sale_covered : (a : ℕ) → IsAccount (book_in s) a → r.side ≡ 1 → true ≡ covered_with_trade (book_in s) r (operator_of (book_in s).setup a)
  sale_covered a own sells =
      let o : ℕ = operator_of (book_in s).setup a in
      still_covered s a _ h own
      (omega (arith, exposure_with_trade_lem o, sale_eases_operators (book_in s).setup (book_in s).part.rows w.number o (rw (← w.row) w.is_pending) (rw (← w.row) sells)))

-- ---- the row that is named and mirrored

module _ (s : List ℕ) (q : Request) (r : Row) (h : is_sound s ≡ true) (w : Confirming (book_in s) q r) where
  -- pending, with the other account as its proposer and the calling one as its counterparty
  pub named_alike : Alike q.other q.account q.code r
  unfolding confirms
  named_alike =
      let (i, e) = index_named (confirms (book_in s).part.rows q) w.named in
      let f = index_first (alike q.other q.account q.code) no_row (book_in s).part.rows i e in
      rw (w.row, e) (alike_true _ _ _ _ f.passes)

  abbrev pub named_waits : WaitsIn (book_in s) r
  named_waits = record { number = confirmed_number (book_in s) q; row = w.row; is_pending = named_alike.is_pending }

  -- it is a row of the book
  named_sound : SoundRow (book_in s).setup r
  named_sound = waiting_sound s r h named_waits

  -- the calling account is one of the book's, and not the proposer
  pub caller_in_book : IsAccount (book_in s) q.account
  caller_in_book = let same = named_alike.counterparty in (omega (arith, same, named_sound.counterparty_low), omega (arith, same, named_sound.counterparty_high))

  not_own : eqb r.proposer q.account ≡ false
  not_own = ne_eqb _ _ (λ e. named_sound.two_accounts (e ∙ sym named_alike.counterparty))

  broken_next : broken_hour (book_in s).setup (changed confirm (book_in s) (q ∷ [])).part.rows q.account
      ≡ broken_by (book_in s).setup (book_in s).part.rows (with_status 2 r ∷ []) q.account
  unfolding apply
  broken_next =
      let pend : pending (nth (book_in s).part.rows (confirmed_number (book_in s) q) no_row) ≡ true = rw (← w.row) named_alike.is_pending in
      let other : eqb (nth (book_in s).part.rows (confirmed_number (book_in s) q) no_row).proposer q.account ≡ false = rw (← w.row) not_own in
      broken-confirmed (book_in s).setup (book_in s).part.rows (confirmed_number (book_in s) q) q.account pend other
      ∙ ap (λ (x : Row). broken_by (book_in s).setup (book_in s).part.rows (with_status 2 x ∷ []) q.account) (sym w.row)

  same_terms_lem : mirrors q (nth (book_in s).part.rows (confirmed_number (book_in s) q) no_row) ≡ true
  same_terms_lem = rw (← w.row) w.terms

  module _ (trade : Row) (e : trade ≡ with_status 2 r) where
    -- ---- what the state decides

    -- refusal 18: the trade breaks a margin
    pub trade_breaks : (k : ℕ) → Some k ≡ broken_by (book_in s).setup (book_in s).part.rows (trade ∷ []) q.account
        → decided confirm (book_in s) q ≡ Some (MarginBroken k)
    trade_breaks k f =
        let (i, named) = index_named (confirms (book_in s).part.rows q) w.named in
        confirm_breaks (book_in s) q w.in_registration i named same_terms_lem k (broken_next ∙ found_hour _ _ _ _ _ k e f)

    module _ (kept : None ≡ broken_by (book_in s).setup (book_in s).part.rows (trade ∷ []) q.account) (t : Bool)
        (test : t ≡ covered_with_trade (book_in s) r (operator_of (book_in s).setup q.account)) where
      covered_next : covered (book_in s).setup (changed confirm (book_in s) (q ∷ [])).part (operator_of (book_in s).setup q.account) ≡ t
      unfolding apply
      covered_next =
          let o : ℕ = operator_of (book_in s).setup q.account in
          covered_at (book_in s) (mark (confirmed_number (book_in s) q) 2 (book_in s).part.rows) o _ (exposure_with_trade_lem s r h named_waits o) ∙ sym test

      -- refusal 19: the exposure is not covered
      pub trade_uncovered : t ≡ false → decided confirm (book_in s) q ≡ Some Uncovered
      trade_uncovered f =
          let (i, named) = index_named (confirms (book_in s).part.rows q) w.named in
          confirm_uncovered (book_in s) q w.in_registration i named same_terms_lem (broken_next ∙ found_nowhere _ _ _ _ _ e kept) (covered_next ∙ f)

      pub covered_with_trade_lem : t ≡ true → decided confirm (book_in s) q ≡ None
      covered_with_trade_lem f =
          let (i, named) = index_named (confirms (book_in s).part.rows q) w.named in
          confirm_passes (book_in s) q w.in_registration i named same_terms_lem (broken_next ∙ found_nowhere _ _ _ _ _ e kept) (covered_next ∙ f)

-- ---- what an accepted one writes

module _ (s : List ℕ) (q : Request) (number : ℕ) (h : is_sound s ≡ true) (free : decided confirm (book_in s) q ≡ None)
    (same : number ≡ confirmed_number (book_in s) q) where
  pub accepted_number : IsRow (book_in s) number
  accepted_number =
      let w = passed_confirm (book_in s) (q ∷ []) (decided_clear confirm (book_in s) q free) in
      (omega (arith, same, w.low), omega (arith, same, w.high))

  module _ (r : Row) (row : r ≡ nth (book_in s).part.rows number no_row) where
    accepted_sound : SoundRow (book_in s).setup r
    accepted_sound = row_sound s h number r accepted_number row

    pub accepted_tabled : Tabled most_hours r
    accepted_tabled = sound_tabled (book_in s).setup (book_is_sound s h).setup_sound r accepted_sound

    pub accepted_energy : 1 ≤ r.quantity.0
    accepted_energy = accepted_sound.quantity_low

    pub trade_answered : (t : List ℕ) → t ≡ nets_moved (marked_confirmed s number) r → Answered confirm s q (accepted number) t
    trade_answered t e =
        let (i, named) = passed_16_confirm (book_in s) (q ∷ []) (decided_clear confirm (book_in s) q free) in
        let next_one : number ≡ suc i = same ∙ ap number_from named in
        let here : r ≡ get_or (book_in s).part.rows i no_row = row ∙ ap (λ (n : ℕ). nth (book_in s).part.rows n no_row) next_one in
        let given : number ≡ i + 1 = omega (arith, next_one) in
        rw given (confirmed_answered s t h q i r free named here accepted_sound.in_order (rw given at e))

-- What holds of every book that calls reach from a freshly opened one: such a book is valid, and a valid book's tests say that nets
-- cancel, margins are kept and exposures are covered.
use Rattle.std.specs.Prelude.{None}
use Prim.Native.Nat.{ℕ, ◌≤◌}
use mathlib.Core.Path.{◌≡◌, refl, ◌∙◌}
use mathlib.Core.List.{List, [], ◌∷◌}
use mathlib.Core.Bool.{true}
use lib.IntN.{pos, neg_ℤ}
use lib.Signed.{◌≤ℤ◌}
use borrow.Author.Tests.{leb-true}
use Rattle.wire.specs.Numbers.{Bytes}
use Rattle.rules.specs.declared.Row.{Row}
use Rattle.rules.specs.Basics.{up_to, Each}
use Rattle.rules.specs.Books.{Book, margins_at, account_count, operator_count, periods, lower_at, upper_at}
use Rattle.rules.specs.Opening.{setup_of, setup_refusal, opened}
use Rattle.rules.specs.Registration.{net_of, account_hour, figure, low, high, exposure, available, covered}
use Rattle.rules.specs.Calls.{Call, step}
use Rattle.rules.specs.Lists.{after}
use Rattle.rules.proofs.Basics.Searches.{each_map}
use Rattle.rules.proofs.Rows.Balanced.{Parties, parties, totalℤ, nets_cancel}
use Rattle.rules.proofs.Rows.SignedReading.{keeps_margins-signed, net_keeps_margins}
use Rattle.rules.proofs.Lists.CallLists.{after_keeps}
use Rattle.image.specs.Valid.{valid}
use Rattle.image.proofs.Sound.Soundness.{SoundRow}
use Rattle.image.proofs.Sound.SoundBooks.{valid_sound}
use Rattle.image.proofs.Keeping.Keeps.{keeps_valid, no_call_changes_setup}
use Rattle.image.proofs.Keeping.Opened.{opened_valid}

-- ---- what the rules demand of a book

-- in each hour net positions sum to zero
abbrev pub NetsCancel : Book → Type 0
NetsCancel b = (hour : ℕ) → totalℤ (λ a. figure (net_of b.part.rows a hour)) (up_to (account_count b.setup)) ≡ pos 0

-- in each hour of each account minus lower margin ≤ low, high ≤ upper margin
abbrev pub MarginsKept : Book → Type 0
MarginsKept b =
    (a hour : ℕ) → 1 ≤ a → a ≤ account_count b.setup → 1 ≤ hour → hour ≤ periods b.setup
    → (neg_ℤ (pos (lower_at b.setup a hour).0) ≤ℤ low (account_hour b.part.rows a hour))
    × (high (account_hour b.part.rows a hour) ≤ℤ pos (upper_at b.setup a hour).0)

-- each net position is within its margins
abbrev pub NetsWithinMargins : Book → Type 0
NetsWithinMargins b =
    (a hour : ℕ) → 1 ≤ a → a ≤ account_count b.setup → 1 ≤ hour → hour ≤ periods b.setup
    → (neg_ℤ (pos (lower_at b.setup a hour).0) ≤ℤ figure (net_of b.part.rows a hour))
    × (figure (net_of b.part.rows a hour) ≤ℤ pos (upper_at b.setup a hour).0)

-- no exposure is above the available guarantee
abbrev pub Covered : Book → Type 0
Covered b =
    (operator : ℕ) → 1 ≤ operator → operator ≤ operator_count b.setup
    → exposure b.setup b.part.rows operator ≤ available b.setup b.part operator

-- a valid book keeps them
module _ (b : Book) (v : valid b ≡ true) where
  pub valid_nets_cancel : NetsCancel b
  valid_nets_cancel hour =
      let n = account_count b.setup in
      let both : (r : Row) → SoundRow b.setup r → Parties n r = λ r s.
      parties n r (s.proposer_low, s.proposer_high) (s.counterparty_low, s.counterparty_high) (s.side_low, s.side_high) in
      nets_cancel n hour b.part.rows (each_map both (valid_sound b v).part_sound.rows_sound)

  pub valid_margins_kept : MarginsKept b
  valid_margins_kept a hour al ah hl hh =
      (keeps_margins-signed (margins_at b.setup a hour) (account_hour b.part.rows a hour)).0
      ((valid_sound b v).part_sound.keeps_margins a hour al ah hl hh)

  pub valid_nets_within_margins : NetsWithinMargins b
  valid_nets_within_margins a hour al ah hl hh =
      net_keeps_margins (margins_at b.setup a hour) (account_hour b.part.rows a hour)
      ((valid_sound b v).part_sound.keeps_margins a hour al ah hl hh)

  pub valid_covered : Covered b
  unfolding covered
  valid_covered o l h =
      leb-true (exposure b.setup b.part.rows o) (available b.setup b.part o) ((valid_sound b v).part_sound.is_covered o l h)

-- ---- after any list

-- every record is bytes
abbrev pub OfBytes : List Call → Type 0
OfBytes cs = Each (λ c. Bytes c.bytes) cs

-- any list of calls leaves a valid book valid
pub after_valid : (b : Book) (cs : List Call) → OfBytes cs → valid b ≡ true → valid (after step b cs) ≡ true
after_valid b cs bytes v = after_keeps step {Good = λ x. valid x ≡ true} (λ x c. keeps_valid x c) b cs bytes v

-- and its set-up as it was
pub after_setup : (b : Book) (cs : List Call) → (after step b cs).setup ≡ b.setup
unfolding after
after_setup b [] = refl
after_setup b (c ∷ cs) = after_setup (step b c).book cs ∙ no_call_changes_setup b c

-- from the book that accepted set-up bytes open
module _ (s : List ℕ) (h : setup_refusal s ≡ None) (cs : List Call) (bytes : OfBytes cs) where
  pub reachable_valid : valid (after step (opened s) cs) ≡ true
  reachable_valid = after_valid (opened s) cs bytes (opened_valid s h)

  pub reachable_setup : (after step (opened s) cs).setup ≡ setup_of s
  unfolding opened
  reachable_setup = after_setup (opened s) cs

  pub reachable_nets_cancel : NetsCancel (after step (opened s) cs)
  reachable_nets_cancel = valid_nets_cancel (after step (opened s) cs) reachable_valid

  pub reachable_margins_kept : MarginsKept (after step (opened s) cs)
  reachable_margins_kept = valid_margins_kept (after step (opened s) cs) reachable_valid

  pub reachable_nets_within_margins : NetsWithinMargins (after step (opened s) cs)
  reachable_nets_within_margins = valid_nets_within_margins (after step (opened s) cs) reachable_valid

  pub reachable_covered : Covered (after step (opened s) cs)
  reachable_covered = valid_covered (after step (opened s) cs) reachable_valid

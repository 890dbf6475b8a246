-- What the tests of a sound part and of a sound book say, each by its name, and that they say no more. A valid book is sound, and its asks
-- stand.
use Rattle.std.specs.Prelude.{Option, None, Some}
use Prim.Native.Nat.{ℕ, ◌≤◌}
use mathlib.Core.Path.{◌≡◌, refl}
use mathlib.Core.List.{List}
use mathlib.Core.Bool.{true, false, not, ◌&&◌}
use lib.ListN.{length}
use lib.Dec.{eqb}
use borrow.Author.Tests.{eqb-true, eqb-false, leb-true, eq-eqb, ne_eqb, le-leb, not-false, not-true}
use Rattle.rules.specs.declared.Row.{Row}
use Rattle.rules.specs.Basics.{any_passes, is_some, Each}
use Rattle.rules.specs.Limits.{most_guarantee, most_rows, most_schedules, most_accounts}
use Rattle.rules.specs.Books.{Setup, Part, Book, ask_at, operator_count, account_count, periods, margins_at}
use Rattle.rules.specs.Registration.{pending, account_hour, keeps_margins, covered}
use Rattle.rules.specs.Asks.{asks_stand}
use Rattle.rules.proofs.Basics.Tests.{and_both, Holds, ◌and◌, no_more, all_holds, holds_all, within_true}
use Rattle.rules.proofs.Basics.Searches.{every_each, each_every, each_map}
use Rattle.image.specs.Valid.{row_ok, no_twins, margins_kept, operators_covered, part_tests, part_ok, follows, saved_ok, ask_ok, book_tests, book_ok, valid}
use Rattle.image.proofs.Sound.Soundness.{or_else, or_by, every_up_to, up_to_every, SoundSetup, sound_setup, setup_sound, not_some, SoundRow, sound_row, row_sound, SoundSchedule, sound_schedule, schedule_sound}

-- ---- a part

pub record SoundPart (u : Setup) (p : Part) : Type 0 where
  pub guarantees_all : length p.guarantees ≡ operator_count u
  pub guarantees_high : Each (λ g. g.0 ≤ most_guarantee) p.guarantees
  pub rows_high : length p.rows ≤ most_rows
  pub rows_sound : Each (SoundRow u) p.rows
  pub no_twins : no_twins p.rows ≡ true
  pub keeps_margins : (a h : ℕ) → 1 ≤ a → a ≤ account_count u → 1 ≤ h → h ≤ periods u
      → keeps_margins (margins_at u a h) (account_hour p.rows a h) ≡ true
  pub is_covered : (o : ℕ) → 1 ≤ o → o ≤ operator_count u → covered u p o ≡ true

part_facts : (u : Setup) (p : Part) → Holds (part_tests u p) → SoundPart u p
unfolding margins_kept operators_covered
part_facts u p (all and guarantees and few and rows and twins and margins and includes_hour and _) = record {
  guarantees_all = eqb-true _ _ all;
  guarantees_high = each_map (λ g e. leb-true g.0 most_guarantee e) (every_each _ p.guarantees guarantees);
  rows_high = leb-true _ _ few;
  rows_sound = each_map (sound_row u) (every_each (row_ok u) p.rows rows);
  no_twins = twins;
  keeps_margins = λ a h al ah hl hh. every_up_to _ (periods u) (every_up_to _ (account_count u) margins a al ah) h hl hh;
  is_covered = every_up_to (covered u p) (operator_count u) includes_hour;
}

pub sound_part : (u : Setup) (p : Part) → part_ok u p ≡ true → SoundPart u p
unfolding part_ok
sound_part u p h = part_facts u p (all_holds (part_tests u p) h)

pub part_sound : (u : Setup) (p : Part) → SoundPart u p → part_ok u p ≡ true
unfolding part_ok margins_kept operators_covered
part_sound u p s =
    holds_all (part_tests u p) (
    eq-eqb _ _ s.guarantees_all
    and each_every _ (each_map (λ g e. le-leb g.0 most_guarantee e) s.guarantees_high)
    and le-leb _ _ s.rows_high
    and each_every (row_ok u) (each_map (row_sound u) s.rows_sound)
    and s.no_twins
    and up_to_every _ (account_count u) (λ a al ah. up_to_every _ (periods u) (λ h hl hh. s.keeps_margins a h al ah hl hh))
    and up_to_every (covered u p) (operator_count u) s.is_covered
    and no_more
    )

-- ---- a book

abbrev pub SavedSound : Setup → List Row → Option Part → Type 0
SavedSound u rows None = Unit {0}
SavedSound u rows (Some p) = SoundPart u p × (follows p.rows rows ≡ true)

-- a row that stands as the ask of an account
pub record AskRow (u : Setup) (a : ℕ) (r : Row) : Type 0 where
  pub own : r.proposer ≡ a
  pub waits : pending r ≡ true
  pub row_sound : SoundRow u r

abbrev pub SoundAsk : Setup → ℕ → Option Row → Type 0
SoundAsk u a None = Unit {0}
SoundAsk u a (Some r) = AskRow u a r

pub record SoundBook (b : Book) : Type 0 where
  pub setup_sound : SoundSetup b.setup
  pub phase_low : 1 ≤ b.phase
  pub phase_high : b.phase ≤ 3
  pub part_sound : SoundPart b.setup b.part
  pub saved_sound : SavedSound b.setup b.part.rows b.saved
  pub schedules_high : length b.schedules ≤ most_schedules
  pub schedules_sound : Each (SoundSchedule b.setup) b.schedules
  pub none_pending : (b.phase ≡ 1 → ⊥) → any_passes pending b.part.rows ≡ false
  pub no_schedules : b.phase ≡ 1 → length b.schedules ≡ 0
  pub no_batch : (b.phase ≡ 1 → ⊥) → b.saved ≡ None
  pub asks_all : length b.asks ≡ most_accounts
  pub asks_sound : (a : ℕ) → 1 ≤ a → a ≤ most_accounts → SoundAsk b.setup a (ask_at b a)

sound_saved : (u : Setup) (rows : List Row) (o : Option Part) → saved_ok u rows o ≡ true → SavedSound u rows o
unfolding saved_ok
sound_saved u rows None h = tt
sound_saved u rows (Some p) h = let w = (and_both (part_ok u p) (follows p.rows rows)).0 h in (sound_part u p w.0, w.1)

saved_sound : (u : Setup) (rows : List Row) (o : Option Part) → SavedSound u rows o → saved_ok u rows o ≡ true
unfolding saved_ok
saved_sound u rows None h = refl
saved_sound u rows (Some p) h = (and_both (part_ok u p) (follows p.rows rows)).1 (part_sound u p h.0, h.1)

sound_ask : (u : Setup) (a : ℕ) (o : Option Row) → ask_ok u a o ≡ true → SoundAsk u a o
sound_ask u a None h = tt
sound_ask u a (Some r) h =
    let w = (and_both (eqb r.proposer a && pending r) (row_ok u r)).0 h in
    let v = (and_both (eqb r.proposer a) (pending r)).0 w.0 in
    record { own = eqb-true _ _ v.0; waits = v.1; row_sound = sound_row u r w.1 }

ask_sound : (u : Setup) (a : ℕ) (o : Option Row) → SoundAsk u a o → ask_ok u a o ≡ true
ask_sound u a None h = refl
ask_sound u a (Some r) h =
    (and_both (eqb r.proposer a && pending r) (row_ok u r)).1
    ((and_both (eqb r.proposer a) (pending r)).1 (eq-eqb _ _ h.own, h.waits), row_sound u r h.row_sound)

book_facts : (b : Book) → Holds (book_tests b) → SoundBook b
book_facts b (setup and phase and part and saved and few and schedules and ended and early and batch and asks and _) =
    let w = (and_both (eqb (length b.asks) most_accounts) _).0 asks in
    let f = (within_true 1 b.phase 3).0 phase in
    record {
      setup_sound = sound_setup b.setup setup;
      phase_low = f.0;
      phase_high = f.1;
      part_sound = sound_part b.setup b.part part;
      saved_sound = sound_saved b.setup b.part.rows b.saved saved;
      schedules_high = leb-true _ _ few;
      schedules_sound = each_map (sound_schedule b.setup) (every_each _ b.schedules schedules);
      none_pending = λ n. not-true _ (or_else _ _ ended (ne_eqb _ _ n));
      no_schedules = λ e. eqb-true _ _ (or_else (not (eqb b.phase 1)) _ early (rw (eq-eqb b.phase 1 e)));
      no_batch = λ n. not_some _ (or_else _ _ batch (ne_eqb _ _ n));
      asks_all = eqb-true _ _ w.0;
      asks_sound = λ a low high. sound_ask b.setup a (ask_at b a) (every_up_to _ most_accounts w.1 a low high);
    }

pub sound : (b : Book) → book_ok b ≡ true → SoundBook b
unfolding book_ok
sound b h = book_facts b (all_holds (book_tests b) h)

pub book_sound : (b : Book) → SoundBook b → book_ok b ≡ true
unfolding book_ok
book_sound b s =
    holds_all (book_tests b) (
    setup_sound b.setup s.setup_sound
    and (within_true 1 b.phase 3).1 (s.phase_low, s.phase_high)
    and part_sound b.setup b.part s.part_sound
    and saved_sound b.setup b.part.rows b.saved s.saved_sound
    and le-leb _ _ s.schedules_high
    and each_every _ (each_map (schedule_sound b.setup) s.schedules_sound)
    and or_by (eqb b.phase 1) (not (any_passes pending b.part.rows)) (λ e. rw (s.none_pending (eqb-false _ _ e)))
    and or_by _ _ (λ e. eq-eqb _ _ (s.no_schedules (eqb-true _ _ (not-false _ e))))
    and or_by (eqb b.phase 1) (not (is_some b.saved)) (λ e. rw (s.no_batch (eqb-false _ _ e)))
    and (and_both (eqb (length b.asks) most_accounts) _).1
    (eq-eqb _ _ s.asks_all, up_to_every _ most_accounts (λ a low high. ask_sound b.setup a (ask_at b a) (s.asks_sound a low high)))
    and no_more
    )

-- ---- a valid book

pub valid_sound : (b : Book) → valid b ≡ true → SoundBook b
unfolding valid
valid_sound b h = sound b ((and_both (book_ok b) (asks_stand b)).0 h).0

pub valid_stands : (b : Book) → valid b ≡ true → asks_stand b ≡ true
unfolding valid
valid_stands b h = ((and_both (book_ok b) (asks_stand b)).0 h).1

pub stands_valid : (b : Book) → SoundBook b → asks_stand b ≡ true → valid b ≡ true
unfolding valid
stands_valid b s h = (and_both (book_ok b) (asks_stand b)).1 (book_sound b s, h)

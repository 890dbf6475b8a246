-- Every change that brings what it needs keeps a book sound.
use Rattle.std.specs.Prelude.{Option, None, Some}
use Prim.Native.Nat.{ℕ, ◌≤◌, ◌<◌}
use mathlib.Core.Path.{◌≡◌, refl, ◌∙◌}
use mathlib.Core.List.{List, [], ◌∷◌}
use mathlib.Core.Logic.{⊎_elim}
use mathlib.Core.Bool.{true, false}
use native.Mathlib.Omega.{arith}
use lib.ListN.{length, length-append}
use Rattle.rules.specs.declared.Row.{Row}
use Rattle.rules.specs.declared.Schedule.{Schedule}
use Rattle.rules.specs.Basics.{any_passes, nth, put, Each}
use Rattle.rules.specs.Limits.{most_accounts, most_schedules}
use Rattle.rules.specs.Books.{Setup, Part, Book, no_asks, with_phase, with_part, with_schedules, with_saved, with_asks}
use Rattle.rules.specs.Registration.{pending}
use Rattle.rules.specs.Calls.{Change, add_rows, set_status, set_guarantee, save_part, restore_part, drop_saved, shut_gate, add_schedule, end_day, stand_ask, restored, apply}
use Rattle.rules.proofs.Basics.Differences.{lt_or_ge}
use Rattle.rules.proofs.Basics.Searches.{put_place, each_snoc}
use Rattle.rules.proofs.Lists.Asks.{none_there}
use Rattle.image.specs.Valid.{follows}
use Rattle.image.proofs.Sound.Soundness.{SoundSchedule}
use Rattle.image.proofs.Sound.SoundBooks.{SoundPart, SavedSound, AskRow, SoundAsk, SoundBook}
use Rattle.image.proofs.Keeping.KeepsRows.{closed_none_pending, follows_refl, follows_added, follows-mark}
use Rattle.image.proofs.Keeping.KeepsParts.{length_put, Addable, Endable, Coverable, part_added, part_ended, part_closed, part_guaranteed}

-- a schedule that has its place
pub record Placeable (b : Book) (x : Schedule) : Type 0 where
  pub later : b.phase ≡ 1 → ⊥
  pub few : length b.schedules < most_schedules
  pub is_sound : SoundSchedule b.setup x

-- what a change needs
abbrev pub Allowed : Book → Change → Type 0
Allowed b (add_rows rows) = (b.phase ≡ 1) × Addable b.setup b.part rows
Allowed b (set_status number status) = (b.phase ≡ 1) × Endable b.setup b.part number status
Allowed b (set_guarantee o g) = (b.phase ≡ 1) × Coverable b.setup b.part o g
Allowed b save_part = b.phase ≡ 1
Allowed b restore_part = b.phase ≡ 1
Allowed b drop_saved = b.phase ≡ 1
Allowed b shut_gate = b.saved ≡ None
Allowed b (add_schedule x) = Placeable b x
Allowed b end_day = b.phase ≡ 1 → ⊥
Allowed b (stand_ask r) = AskRow b.setup r.proposer r

-- in phase 1 a sound part, with a saved part that it follows, makes a sound book
in_registration : (b : Book) (p : Part) (saved : Option Part) → SoundBook b → b.phase ≡ 1 → SoundPart b.setup p
    → SavedSound b.setup p.rows saved → SoundBook (with_saved (with_part b p) saved)
in_registration b p saved s first part batch =
    record {
      setup_sound = s.setup_sound;
      phase_low = s.phase_low;
      phase_high = s.phase_high;
      part_sound = part;
      saved_sound = batch;
      schedules_high = s.schedules_high;
      schedules_sound = s.schedules_sound;
      none_pending = λ later. absurd (later first);
      no_schedules = s.no_schedules;
      no_batch = λ later. absurd (later first);
      asks_all = s.asks_all;
      asks_sound = s.asks_sound;
    }

-- after phase 1, with no batch open, a sound part in which no row is pending and sound schedules make a sound book
after_registration : (b : Book) (phase : ℕ) (p : Part) (xs : List Schedule) → SoundBook b → 2 ≤ phase → phase ≤ 3 → b.saved ≡ None
    → SoundPart b.setup p → any_passes pending p.rows ≡ false → length xs ≤ most_schedules → Each (SoundSchedule b.setup) xs
    → SoundBook (with_schedules (with_part (with_phase b phase) p) xs)
after_registration b phase p xs s later known batch part ended few schedules =
    record {
      setup_sound = s.setup_sound;
      phase_low = omega arith;
      phase_high = known;
      part_sound = part;
      saved_sound = rw batch tt;
      schedules_high = few;
      schedules_sound = schedules;
      none_pending = λ _. ended;
      no_schedules = λ first. absurd (omega arith);
      no_batch = λ _. batch;
      asks_all = s.asks_all;
      asks_sound = s.asks_sound;
    }

-- other asks that are sound make a sound book
pub asked_sound : (b : Book) (asks : List (Option Row)) → SoundBook b → length asks ≡ most_accounts
    → ((a : ℕ) → 1 ≤ a → a ≤ most_accounts → SoundAsk b.setup a (nth asks a None)) → SoundBook (with_asks b asks)
asked_sound b asks s all each =
    record {
      setup_sound = s.setup_sound;
      phase_low = s.phase_low;
      phase_high = s.phase_high;
      part_sound = s.part_sound;
      saved_sound = s.saved_sound;
      schedules_high = s.schedules_high;
      schedules_sound = s.schedules_sound;
      none_pending = s.none_pending;
      no_schedules = s.no_schedules;
      no_batch = s.no_batch;
      asks_all = all;
      asks_sound = each;
    }

-- a book without asks is sound
pub cleared_sound : (b : Book) → SoundBook b → SoundBook (with_asks b no_asks)
cleared_sound b s = asked_sound b no_asks s refl (λ a low high. rw (none_there a) tt)

-- one ask put among sound ones, in the place of its account
stood_sound : (b : Book) (r : Row) → SoundBook b → AskRow b.setup r.proposer r → SoundBook (with_asks b (put b.asks r.proposer (Some r)))
stood_sound b r s own =
    asked_sound b (put b.asks r.proposer (Some r)) s (length_put b.asks r.proposer (Some r) ∙ s.asks_all) (λ a low high.
    ⊎_elim
    (λ w. rw w.1 (record { own = w.0; waits = own.waits; row_sound = own.row_sound }))
    (λ w. rw w.0 (s.asks_sound a low high))
    (put_place b.asks r.proposer a (Some r) None))

past_first : (b : Book) → SoundBook b → (b.phase ≡ 1 → ⊥) → 2 ≤ b.phase
past_first b s later = ⊎_elim (λ (l : b.phase < 2). absurd (later (omega (arith, s.phase_low)))) (λ l. l) (lt_or_ge b.phase 2)

-- a saved part is followed yet
saved_followed_lem : (u : Setup) (rows later : List Row) (saved : Option Part)
    → ((xs : List Row) → follows xs rows ≡ true → follows xs later ≡ true) → SavedSound u rows saved → SavedSound u later saved
saved_followed_lem u rows later None f h = tt
saved_followed_lem u rows later (Some p) f h = (h.0, f p.rows h.1)

saved_part : (u : Setup) (rows : List Row) (saved : Option Part) (p : Part) → SavedSound u rows saved → SoundPart u p
    → SoundPart u (restored saved p)
saved_part u rows None p h s = s
saved_part u rows (Some old) p h s = h.0

pub apply_keeps : (x : Change) (b : Book) → SoundBook b → Allowed b x → SoundBook (apply x b)
unfolding apply
apply_keeps (add_rows rows) b s w =
    in_registration b _ b.saved s w.0
    (part_added b.setup b.part s.part_sound rows w.1)
    (saved_followed_lem b.setup b.part.rows _ b.saved (λ xs h. follows_added xs b.part.rows rows h) s.saved_sound)
apply_keeps (set_status number status) b s w =
    in_registration b _ b.saved s w.0
    (part_ended b.setup b.part s.part_sound number status w.1)
    (saved_followed_lem b.setup b.part.rows _ b.saved (λ xs h. follows-mark xs b.part.rows number status w.1.waits h) s.saved_sound)
apply_keeps (set_guarantee o g) b s w =
    in_registration b _ b.saved s w.0 (part_guaranteed b.setup b.part s.part_sound o g w.1) s.saved_sound
apply_keeps save_part b s w =
    in_registration b b.part (Some b.part) s w s.part_sound (s.part_sound, follows_refl b.part.rows)
-- undo restores a part that was sound
apply_keeps restore_part b s w =
    in_registration b _ None s w (saved_part b.setup b.part.rows b.saved b.part s.saved_sound s.part_sound) tt
apply_keeps drop_saved b s w = in_registration b b.part None s w s.part_sound tt
apply_keeps shut_gate b s w =
    after_registration b 2 _ b.schedules s (omega arith) (omega arith) w (part_closed b.setup b.part s.part_sound) (closed_none_pending b.part.rows) s.schedules_high s.schedules_sound
apply_keeps (add_schedule x) b s w =
    let ended = w.later in
    after_registration b b.phase b.part _ s (past_first b s ended) s.phase_high (s.no_batch ended) s.part_sound (s.none_pending ended) (omega (arith, w.few, length-append b.schedules (x ∷ []))) (each_snoc s.schedules_sound w.is_sound)
apply_keeps (stand_ask r) b s w = stood_sound b r s w
apply_keeps end_day b s w =
    after_registration b 3 b.part b.schedules s (omega arith) (omega arith) (s.no_batch w) s.part_sound (s.none_pending w) s.schedules_high s.schedules_sound

-- no change touches the set-up
pub apply_setup : (x : Change) (b : Book) → (apply x b).setup ≡ b.setup
unfolding apply
apply_setup (add_rows rows) b = refl
apply_setup (set_status number status) b = refl
apply_setup (set_guarantee o g) b = refl
apply_setup save_part b = refl
apply_setup restore_part b = refl
apply_setup drop_saved b = refl
apply_setup shut_gate b = refl
apply_setup (add_schedule x) b = refl
apply_setup end_day b = refl
apply_setup (stand_ask r) b = refl

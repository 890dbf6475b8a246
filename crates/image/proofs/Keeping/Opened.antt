-- The book that an accepted set-up opens is valid: with no rows there is nothing to break a margin or to be covered.
use Rattle.std.specs.Prelude.{if◌then◌else◌, None}
use Prim.Native.Nat.{ℕ, ◌+◌, ◌*◌, ◌≤◌}
use mathlib.Core.Path.{◌≡◌, refl, sym, ◌∙◌}
use mathlib.Core.List.{List, [], map}
use mathlib.Core.Bool.{Bool, true, false}
use native.Mathlib.Nat.{mul-zero}
use native.Mathlib.Omega.{arith}
use lib.ListN.{length-map}
use lib.Dec.{eqb}
use borrow.Author.Tests.{le-leb}
use Rattle.rules.specs.declared.Operator.{Operator}
use Rattle.rules.specs.Basics.{total, any_passes, up_to, Each, nil, cons}
use Rattle.rules.specs.Limits.{most_guarantee}
use Rattle.rules.specs.Books.{Setup, estimate_at, operator_of, account_count, periods, lower_at, upper_at}
use Rattle.rules.specs.Opening.{operators_in, setup_of, guarantees_of, setup_refusal, opened}
use Rattle.rules.specs.Registration.{moved, waiting, account_hour, exposed, keeps_margins, of_operator, exposure_of, exposure, available, covered}
use Rattle.rules.proofs.Basics.Totals.{total_zero, total_cong}
use Rattle.image.specs.Layout.{used_size}
use Rattle.image.specs.Image.{image}
use Rattle.image.specs.Valid.{no_twins, valid, is_book_of}
use Rattle.image.proofs.Sound.Soundness.{sound_setup}
use Rattle.image.proofs.Sound.SoundBooks.{SoundPart, SoundBook, stands_valid}
use Rattle.image.proofs.Setups.SetupRanges.{SoundOperator}
use Rattle.image.proofs.Round.{image-is_book}
use Rattle.rules.proofs.Lists.Asks.{none_there}
use Rattle.image.proofs.Keeping.Keeps.{cleared_stands}
use Rattle.image.proofs.Setups.SetupAgain.{accepted_in_range, accepted_sound}

guarantees_in_range : {os : List Operator} → Each SoundOperator os → Each (λ g. g.0 ≤ most_guarantee) (map (λ x. x.guarantee) os)
guarantees_in_range nil = nil
guarantees_in_range (cons p e) = cons p.0 (guarantees_in_range e)

total_none : (f : ℕ → ℕ) (l : List ℕ) → ((x : ℕ) → f x ≡ 0) → total f l ≡ 0
total_none f l h = total_cong f (λ x. 0) l h ∙ total_zero l

nothing_exposed : (u : Setup) (o : ℕ) → exposure u [] o ≡ 0
unfolding exposure_of of_operator moved waiting total
nothing_exposed u o = total_none _ (up_to (account_count u)) (λ a. go a (eqb (operator_of u a) o))
  where
    go : (a : ℕ) (t : Bool) → (if t then total (λ h. (estimate_at u h).0 * exposed (account_hour [] a h)) (up_to (periods u)) else 0) ≡ 0
    go a true = total_none _ (up_to (periods u)) (λ h. mul-zero (estimate_at u h).0)
    go a false = refl

module _ (s : List ℕ) (h : setup_refusal s ≡ None) where
  opened_part : SoundPart (setup_of s) (opened s).part
  unfolding opened setup_of guarantees_of no_twins keeps_margins covered moved waiting total
  opened_part =
      record {
        guarantees_all = length-map (operators_in s) _ ∙ sym (length-map (operators_in s) _);
        guarantees_high = guarantees_in_range (accepted_in_range s h).operators_sound;
        rows_high = omega arith;
        rows_sound = nil;
        no_twins = refl;
        keeps_margins = λ a k al ah kl kh. rw (le-leb 0 (0 + (lower_at (setup_of s) a k).0) (omega arith), le-leb 0 (0 + (upper_at (setup_of s) a k).0) (omega arith));
        is_covered = λ o l m. le-leb (exposure (setup_of s) [] o) (available (setup_of s) (opened s).part o) (omega (arith, nothing_exposed (setup_of s) o));
      }

  pub opened_sound : SoundBook (opened s)
  unfolding opened any_passes
  opened_sound =
      record {
        setup_sound = sound_setup (setup_of s) (accepted_sound s h);
        phase_low = omega arith;
        phase_high = omega arith;
        part_sound = opened_part;
        saved_sound = tt;
        schedules_high = omega arith;
        schedules_sound = nil;
        none_pending = λ n. refl;
        no_schedules = λ e. refl;
        no_batch = λ n. refl;
        asks_all = refl;
        asks_sound = λ a low high. rw (none_there a) tt;
      }

  pub opened_valid : valid (opened s) ≡ true
  unfolding opened
  opened_valid = stands_valid (opened s) opened_sound (cleared_stands (opened s))

  -- and so its bytes are a book
  pub opened_is_book : (top size : ℕ) → used_size top ≤ size → is_book_of top size (image top size (opened s)) ≡ true
  opened_is_book top size g = image-is_book top size (opened s) g opened_valid

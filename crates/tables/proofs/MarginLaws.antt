-- Margins account by account and hour by hour, as the bytes of the set-up have accounts and hours.
use Prim.Native.Nat.{ℕ}
use mathlib.Core.Path.{◌≡◌, refl, sym}
use mathlib.Core.List.{List}
use mathlib.Core.Bool.{Bool}
use Rattle.rules.specs.declared.Margins.{Margins}
use Rattle.rules.specs.declared.AccountHour.{AccountHour}
use Rattle.rules.specs.declared.Row.{Row}
use Rattle.rules.specs.Basics.{every, counting}
use Rattle.rules.specs.Books.{margins_at}
use Rattle.rules.specs.Opening.{counts_in, setup_of}
use Rattle.rules.specs.Registration.{account_hour, keeps_margins}
use Rattle.rules.proofs.Setups.SetupEntries.{length_accounts}
use Rattle.image.specs.Valid.{account_keeps, margins_kept}

pub margins_by_account : (s : List ℕ) (rows : List Row)
    → margins_kept (setup_of s) rows ≡ every (account_keeps (setup_of s) rows) (counting (counts_in s).accounts 1)
unfolding margins_kept setup_of
margins_by_account s rows = rw (length_accounts s)

-- the account keeps its margins in the hour
unfoldable pub hour_kept : List ℕ → List Row → ℕ → ℕ → Bool
hour_kept s rows a h = keeps_margins (margins_at (setup_of s) a h) (account_hour rows a h)

pub margins_by_hour_lem : (s : List ℕ) (rows : List Row) (a : ℕ) → account_keeps (setup_of s) rows a ≡ every (hour_kept s rows a) (counting (counts_in s).hours 1)
unfolding hour_kept setup_of
margins_by_hour_lem s rows a = refl

-- the test of an hour that was read
pub hour_kept_lem : (s : List ℕ) (rows : List Row) (a h : ℕ) (margins : Margins) (x : AccountHour) {t : Bool}
    → margins ≡ margins_at (setup_of s) a h → x ≡ account_hour rows a h → t ≡ keeps_margins margins x → hour_kept s rows a h ≡ t
unfolding hour_kept
hour_kept_lem s rows a h margins x e d t = rw (← e, ← d) (sym t)

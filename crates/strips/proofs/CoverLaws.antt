-- The exposure with the rows of a strip in is the standing one, and what each row adds as a pending sale.
use Prim.Native.Nat.{ℕ, ◌+◌}
use mathlib.Core.Path.{◌≡◌}
use mathlib.Core.List.{List, []}
use mathlib.Core.Bool.{true}
use Rattle.wire.specs.Numbers.{Bytes}
use Rattle.rules.specs.Basics.{total}
use Rattle.rules.specs.Registration.{proposed, exposure_with}
use Rattle.rules.proofs.Basics.Searches.{each_image}
use Rattle.image.specs.Valid.{is_sound, book_in}
use Rattle.book.specs.Worth.{sale_worth}
use Rattle.registration.proofs.CoverLaws.{exposure_with-pending}
use Rattle.strips.specs.Ready.{ReadyStrip, strip_requests, proposed_rows}
use Rattle.strips.proofs.ReadyLaws.{proposed-pending, ready_sound}

pub exposure_with-strip : (s bytes : List ℕ) (n o : ℕ) → is_sound s ≡ true → Bytes bytes → ReadyStrip (book_in s) bytes n → (standing added sum : ℕ)
    → standing ≡ exposure_with (book_in s).setup (book_in s).part.rows [] o
    → added ≡ total (sale_worth (book_in s).setup o) (proposed_rows bytes n)
    → sum ≡ standing + added
    → sum ≡ exposure_with (book_in s).setup (book_in s).part.rows (proposed_rows bytes n) o
exposure_with-strip s bytes n o h known r =
    exposure_with-pending s o (proposed_rows bytes n) h (each_image proposed (ready_sound (book_in s) bytes n known r)) (proposed-pending (strip_requests bytes n))

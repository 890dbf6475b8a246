-- What marking a row and closing the gate keep: how many rows there are, and what each row has whatever its status.
use Rattle.std.specs.Prelude.{if◌then◌else◌}
use Prim.Native.Nat.{ℕ, zero, suc}
use mathlib.Core.Path.{◌≡◌, refl}
use mathlib.Core.List.{List}
use mathlib.Core.Bool.{Bool, true, false}
use lib.ListN.{length, length-set, length-map}
use Rattle.rules.specs.declared.Row.{Row}
use Rattle.rules.specs.Basics.{Each, nil, cons}
use Rattle.rules.specs.Registration.{pending, with_status, mark, closed}
use Rattle.rules.proofs.Basics.Searches.{each_mapped}

pub length-mark : (n status : ℕ) (rows : List Row) → length (mark n status rows) ≡ length rows
unfolding mark
length-mark zero status rows = refl
length-mark (suc i) status rows = length-set rows i _

pub length-closed : (rows : List Row) → length (closed rows) ≡ length rows
unfolding closed
length-closed rows = length-map rows _

pub each_mark {κ} : {P : Row → Type κ} {rows : List Row} (n status : ℕ) → ((r : Row) → P r → P (with_status status r)) → Each P rows
    → Each P (mark n status rows)
unfolding mark
each_mark zero status f e = e
each_mark (suc i) status f nil = nil
each_mark (suc zero) status f (cons {x = r} q e) = cons (f r q) e
each_mark (suc (suc i)) status f (cons q e) = cons q (each_mark (suc i) status f e)

close_go {κ} : (P : Row → Type κ) (r : Row) (t : Bool) → P (with_status 3 r) → P r → P (if t then with_status 3 r else r)
close_go P r true p q = p
close_go P r false p q = q

pub each_closed {κ} : {P : Row → Type κ} {rows : List Row} → ((r : Row) → P r → P (with_status 3 r)) → Each P rows → Each P (closed rows)
unfolding closed
each_closed {P} f e = each_mapped _ (λ r q. close_go P r (pending r) (f r q) q) e

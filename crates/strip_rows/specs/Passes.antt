-- A check that is put to one row of a strip after the other (document 02, note 3): on its bytes, and on the request that it says.
use Rattle.std.specs.Prelude.{ℕ, List, ◌++◌, map, not, eqb}
use Rattle.rules.specs.declared.Counts.{Counts}
use Rattle.rules.specs.declared.Request.{Request}
use Rattle.rules.specs.declared.Refusal.TheVariants.{Unreadable, UnknownKind, OutOfRange, SameAccount}
use Rattle.rules.specs.Verdicts.{Check, ◌⇒◌, ◌⇒↑◌}
use Rattle.rules.specs.Requests.{kind_number, register, field_in, unreadable, map_check, first_of, faulty_bit_among, same_accounts}

-- 2, 3 and 4 of a row
abbrev pub readable_check : List ℕ → Check
readable_check s = unreadable s ⇒ Unreadable

abbrev pub register_check : List ℕ → Check
register_check s = not (eqb (field_in s 0) (kind_number register)) ⇒ UnknownKind

abbrev pub mapped_check : List ℕ → Check
mapped_check s = map_check (kind_number register) s

-- 6 of a request, among others of which the first has this proposer, and 7
abbrev pub range_check : Counts → ℕ → Request → Check
range_check n proposer q = faulty_bit_among n proposer q ⇒↑ OutOfRange

abbrev pub accounts_check : Request → Check
accounts_check q = same_accounts q ⇒ SameAccount

-- 6 of all requests, and then 7
unfoldable pub requests_checks : Counts → List Request → List Check
requests_checks n qs = map (range_check n (first_of qs).account) qs ++ map accounts_check qs

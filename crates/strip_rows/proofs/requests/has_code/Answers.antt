-- One of the requests has the code where one has it by its number.
use mathlib.Core.Path.{◌≡◌, refl}
use mathlib.Core.Bool.{true, false}
use native.Mathlib.Omega.{arith}
use Rattle.std.proofs.Common.{rules, of_calls}
use Rattle.std.proofs.iter.Serving.{serving}
use Rattle.std.proofs.lemmas.Iterator.{serves_from_Range, cases_from_any, YieldsList-from_range}
use Rattle.rules.specs.Requests.{request_of}
use Rattle.rules.specs.Registration.{of_code}
use Rattle.rules.specs.Strips.{IsRegister}
use Rattle.strip_rows.specs.Rows.{row_of}
use Rattle.strip_rows.proofs.RowsFrom.{any_row}
use Rattle.strip_rows.proofs.RequestLaws.{any_by_number}
use Rattle.strip_rows.proofs.requests.has_code.Goals as goal

pub any-requires-clause-callable : goal.any-requires-clause-callable
any-requires-clause-callable c =
    serves_from_Range (λ i q r. search rules) (λ i from low.
    let it : IsRegister (row_of c.args.bytes.now c.args.at i) = any_row _ _ _ i low c.requires.registers in
    grind (serving, it))

pub returns : goal.returns
returns c =
    any_by_number (of_code c.args.other c.args.code) c.args.bytes.now c.args.at c.args.n c.any.result
    (cases_from_any _ _ c.any.result
    (λ i. of_code c.args.other c.args.code (request_of (row_of c.args.bytes.now c.args.at i)) ≡ true)
    (λ i. of_code c.args.other c.args.code (request_of (row_of c.args.bytes.now c.args.at i)) ≡ false)
    c.any.ensures.ran (YieldsList-from_range 0 c.args.n c.args.n refl (omega arith)) (λ i q k. search of_calls) (λ i q k. search of_calls))

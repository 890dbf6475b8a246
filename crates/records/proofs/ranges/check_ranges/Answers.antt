-- The kind says which map is wanted, and the map which fields are checked.
use mathlib.Core.Path.{sym, refl}
use native.Mathlib.Omega.{arith}
use Rattle.records.proofs.KindLaws.{wanted_run, wanted_none}
use Rattle.records.proofs.RangeLaws.{ranges_none, ranges_kind_alone}
use Rattle.records.proofs.ranges.check_ranges.Goals as goal

pub returns-in-5-to-8 : goal.returns-in-5-to-8
returns-in-5-to-8 c =
    sym (ranges_kind_alone c.args.counts c.args.request (wanted_run 5 4 1 c.args.request.kind refl (omega arith) (omega arith)))

pub returns-in-10-to-11 : goal.returns-in-10-to-11
returns-in-10-to-11 c =
    sym (ranges_kind_alone c.args.counts c.args.request (wanted_run 10 2 1 c.args.request.kind refl (omega arith) (omega arith)))

pub returns-in_default : goal.returns-in_default
returns-in_default c =
    sym (ranges_none c.args.counts c.args.request (wanted_run 0 1 0 c.args.request.kind refl (omega arith) (omega arith)))

pub returns-in_default-2 : goal.returns-in_default-2
returns-in_default-2 c =
    sym (ranges_none c.args.counts c.args.request (wanted_none c.args.request.kind (omega arith)))

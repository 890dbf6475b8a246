-- The fields of a trade, and then its accounts.
use mathlib.Core.Path.{◌∙◌, refl}
use Rattle.rules.specs.Basics.{bit}
use Rattle.rules.specs.Requests.{same_accounts}
use Rattle.rules.proofs.Checks.PassedOn.{passed_on}
use Rattle.records.proofs.RangeLaws.{fields_refuse, fields_clear}
use Rattle.records.proofs.ranges.trade_fields.Goals as goal

pub returns-in_err-trade_ranges : goal.returns-in_err-trade_ranges
returns-in_err-trade_ranges c =
    passed_on _ c.from_residual.ensures.1 ∙ fields_refuse c.args.n c.args.q c.trade_ranges.ensures c.in_err-trade_ranges.was

pub returns : goal.returns
unfolding same_accounts bit
returns c =
    let rest = fields_clear c.args.n c.args.q c.trade_ranges.ensures c.in_ok-trade_ranges.was in
    rw (c.fails_if.ensures, ← rest, c.requires) refl

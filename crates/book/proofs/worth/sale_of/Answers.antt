-- A pending sale by one of the operator's accounts adds its quantity at the prices of its hours, and any other row nothing.
use mathlib.Core.Path.{sym}
use native.Mathlib.Omega.{arith}
use Rattle.book.proofs.WorthParts.{operator_listed, spanned, sale_waits, sale_skipped, sale_of_others, sale_priced}
use Rattle.book.proofs.worth.sale_of.Goals as goal

pub returns-then-r : goal.returns-then-r
returns-then-r c =
    record { meaning = sym (sale_skipped _ c.args.operator c.args.r c.if-r.true); bounded = omega arith }

pub bounds-operators-r : goal.bounds-operators-r
bounds-operators-r c =
    let known = c.requires.1.proposer_known (sale_waits c.args.r c.if-r.false) in
    operator_listed _ _ _ c.requires.0.is_sound c.requires.0.account_operators known

pub span_worth-requires : goal.span_worth-requires
span_worth-requires c =
    (spanned _ _ _ c.args.r c.requires.0 c.requires.1 (sale_waits c.args.r c.if-r.false)).priced

pub returns-then-operators-r : goal.returns-then-operators-r
returns-then-operators-r c =
    let waits = sale_waits c.args.r c.if-r.false in
    let known = c.requires.1.proposer_known waits in
    let own = c.requires.0.account_operators.operator _ known.0 known.1 in
    let span = spanned _ _ _ c.args.r c.requires.0 c.requires.1 waits in
    let both = sale_priced _ c.args.operator _ c.args.r _ _ span c.if-r.false own c.if-operators-r.true c.span_worth.ensures in record { meaning = both.0; bounded = both.1 }

pub returns : goal.returns
returns c =
    let known = c.requires.1.proposer_known (sale_waits c.args.r c.if-r.false) in
    let own = c.requires.0.account_operators.operator _ known.0 known.1 in
    record { meaning = sym (sale_of_others _ c.args.operator c.args.r _ own c.if-operators-r.false); bounded = omega arith }

-- The comparison of the rows by their numbers is that of the rows.
use mathlib.Core.Path.{sym, ◌∙◌}
use native.Mathlib.Omega.{arith}
use Rattle.std.proofs.Common.{of_calls}
use Rattle.audit.proofs.FollowLaws.{follows_short, follows_by_number}
use Rattle.audit.proofs.saved.rows_follow.Goals as goal

pub returns-then-n-m : goal.returns-then-n-m
returns-then-n-m c = sym (follows_short c.args.s.now c.args.from c.args.at c.args.m c.args.n (omega arith))

pub returns : goal.returns
returns c =
    c.all_pass.ensures _ (λ i l t post. search of_calls)
    ∙ sym (follows_by_number c.args.s.now c.args.from c.args.at c.args.m c.args.n (omega arith))

-- In a book no margin is broken, so that the 4 bytes of a net say its position; the account is tested before the hour.
use Rattle.std.specs.Prelude.{Ok}
use mathlib.Core.Path.{sym, ap, ◌∙◌}
use native.Mathlib.Omega.{arith}
use Rattle.book.proofs.StateLaws.{book_length}
use Rattle.book.proofs.ReadingLaws.{net_no_account, net_no_hour, net_in_table, net_stands}
use Rattle.book.proofs.readings.net_in.Goals as goal

pub counts-n-requires : goal.counts-n-requires
counts-n-requires c = omega (arith, book_length c.args.book.now c.requires)

pub returns-then-outside : goal.returns-then-outside
returns-then-outside c =
    sym (net_no_account c.args.book.now c.requires c.counts-n.result c.counts-n.ensures c.args.account c.args.hour
    (sym c.outside.ensures ∙ c.if-outside.true))

pub returns-then-outside-2 : goal.returns-then-outside-2
returns-then-outside-2 c =
    sym (net_no_hour c.args.book.now c.requires c.counts-n.result c.counts-n.ensures c.args.account c.args.hour
    (sym c.outside.ensures ∙ c.if-outside.false) (sym c.outside-2.ensures ∙ c.if-outside-2.true))

pub stored_net-requires : goal.stored_net-requires
stored_net-requires c = (
  c.requires,
  net_in_table c.args.book.now c.requires c.counts-n.result c.counts-n.ensures c.args.account c.args.hour
      (sym c.outside.ensures ∙ c.if-outside.false) (sym c.outside-2.ensures ∙ c.if-outside-2.false),
)

pub returns : goal.returns
returns c =
    ap Ok c.position_of.ensures
    ∙ sym (net_stands c.args.book.now c.requires c.counts-n.result c.counts-n.ensures c.args.account c.args.hour
    (sym c.outside.ensures ∙ c.if-outside.false) (sym c.outside-2.ensures ∙ c.if-outside-2.false) c.stored_net.result c.stored_net.ensures)

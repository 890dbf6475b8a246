-- The limit is what the net position leaves, and what is used up is read from the account's cell, which lies past those of the points.
use native.Mathlib.Omega.{arith}
use borrow.Author.Rules.{rules}
use Rattle.valuation.proofs.CongruityLaws.{account_read_in_cells, account_hour_stands}
use Rattle.valuation.proofs.congruity.over_account.Goals as goal

pub cell_for-k-requires : goal.cell_for-k-requires
cell_for-k-requires c =
    let cell = account_read_in_cells _ c.requires.0 _ c.requires.1.in_range _ c.requires.1.its_point in
    search rules

pub net_at-net-requires : goal.net_at-net-requires
net_at-net-requires c =
    let at = account_hour_stands _ c.requires.0 _ c.requires.1.in_range _ c.requires.1.its_point in
    (c.requires.0, at.0, at.1)

pub bounds-used-k : goal.bounds-used-k
bounds-used-k c =
    let cell = account_read_in_cells _ c.requires.0 _ c.requires.1.in_range _ c.requires.1.its_point in
    omega (arith, c.cell_for-k.ensures, c.requires.2, cell)

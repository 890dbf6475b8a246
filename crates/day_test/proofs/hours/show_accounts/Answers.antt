use Rattle.std.proofs.Common.{rules, sym, ap, ◌∙◌}
use Rattle.rules.specs.declared.Counts.{Counts}
use Rattle.book.proofs.BookRows.{setup_tabled, counts_in_lem}
use Rattle.day_test.proofs.hours.show_accounts.Goals as goal

-- src/hours.rt: a book holds its counts
pub counts-n-requires : goal.counts-n-requires
counts-n-requires g c = let s = setup_tabled _ c.requires.priced.is_sound in search rules

-- src/hours.rt: the accounts are those of the set-up
pub loop-number-init : goal.loop-number-init
loop-number-init g c =
    (ap (λ (n : Counts). n.accounts) (c.counts-n.ensures ∙ sym (counts_in_lem _ c.requires.priced.is_sound)), search rules, search rules)

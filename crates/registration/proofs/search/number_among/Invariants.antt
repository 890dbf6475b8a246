-- The number found among all rows is that found among the rows that are left, counted on from those that were passed.
use Rattle.std.proofs.Common.{◌≡◌, ◌+◌, ◌-◌, ◌*◌}
use Rattle.rules.specs.Basics.{index_of}
use Rattle.rules.specs.Registration.{alike}
use Rattle.rules.specs.Calls.{number_from}
use Rattle.image.specs.Cells.{rows_from}
use Rattle.image.specs.Layout.{row_width}
use Rattle.registration.proofs.PendingLaws.{numbered}
use Rattle.registration.proofs.search.number_among.Given as goal

abbrev pub invariant-loop-passed : goal.invariant-loop-passed
invariant-loop-passed l =
    number_from (index_of (alike l.proposer l.counterparty l.code) (rows_from l.book l.at l.n))
    ≡ numbered l.passed (index_of (alike l.proposer l.counterparty l.code) (rows_from l.book (l.at + row_width * l.passed) (l.n - l.passed)))

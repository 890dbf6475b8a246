-- What register would be refused for refuses it; else its row is put into its place.
use Rattle.std.specs.Prelude.{None, Some}
use Rattle.rules.proofs.Checks.PassedOn.{passed_on}
use mathlib.Core.Path.{refl, sym, ◌∙◌}
use Rattle.rules.specs.Requests.{ask}
use Rattle.rules.proofs.Checks.Clearing.{checked-same}
use Rattle.registration.proofs.RegisterLaws.{ready_proposes}
use Rattle.asks.proofs.AskLaws.{ask_refused, ask_accepted}
use Rattle.asks.proofs.ask.ask.Goals as goal

pub register_fault-requires : goal.register_fault-requires
register_fault-requires c =
    record { known_book = c.requires.known_book; proposes_row = ready_proposes ask _ _ refl c.requires.ready }

pub returns-in_err-register_fault : goal.returns-in_err-register_fault
returns-in_err-register_fault c =
    let both = ask_refused _ _ c.requires.known_book _
    (checked-same _ (Some _) (sym c.register_fault.ensures ∙ c.in_err-register_fault.was)) in record { answer = passed_on _ c.from_residual.ensures.1 ∙ both.0; bytes = both.1.0; still = both.1.1 }

pub put_ask-requires : goal.put_ask-requires
put_ask-requires c =
    (c.requires.known_book, rw c.proposed_row-row.ensures (ready_proposes ask _ _ refl c.requires.ready))

pub returns : goal.returns
returns c =
    let free = checked-same _ None (sym c.register_fault.ensures ∙ c.in_ok-register_fault.was) in
    let both = ask_accepted _ _ c.requires.known_book _ _ free (ready_proposes ask _ _ refl c.requires.ready) c.row_count-n.ensures.meaning
    (rw c.proposed_row-row.ensures at c.put_ask.ensures) in record { answer = both.0; bytes = both.1.0; still = both.1.1 }

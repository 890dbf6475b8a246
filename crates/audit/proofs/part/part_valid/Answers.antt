-- A part that has too many rows or fails a test is not valid; otherwise the last tests, by the sums of its rows, decide.
use mathlib.Core.Path.{sym, ap, ◌∙◌}
use native.Mathlib.Omega.{arith}
use Rattle.rules.specs.declared.Counts.{Counts}
use Rattle.audit.proofs.PartValidity.{too_many_rows, guarantees_fail, rows_fail, sums_decide, rows_tabled, guarantees_small}
use Rattle.audit.proofs.ValidityLaws.{not_passed}
use borrow.Author.Rules.{rules}
use Rattle.audit.proofs.part.part_valid.Goals as goal

pub returns-then-rows-gt-MOST_ROWS : goal.returns-then-rows-gt-MOST_ROWS
returns-then-rows-gt-MOST_ROWS c =
    record { meaning = too_many_rows _ _ _ (omega (arith, c.get-rows.ensures)); sums = not_passed }

pub guarantees_valid-requires : goal.guarantees_valid-requires
guarantees_valid-requires c =
    (search rules, omega (arith, ap (λ (n : Counts). n.operators) c.counts-c.ensures, c.requires.setup_known.0.operators_high))

pub returns-then-not-guarantees_valid : goal.returns-then-not-guarantees_valid
returns-then-not-guarantees_valid c =
    let fails =
    guarantees_fail _ _ _ _ _ c.requires.setup_known.0 c.get-rows.ensures (ap (λ (n : Counts). n.operators) c.counts-c.ensures) (omega arith)
    (sym c.guarantees_valid.ensures ∙ c.if-not-guarantees_valid.true) in
    record { meaning = fails; sums = not_passed }

pub returns-then-not-rows_valid : goal.returns-then-not-rows_valid
returns-then-not-rows_valid c =
    let fails =
    rows_fail _ _ _ _ _ c.requires.setup_known.0 c.get-rows.ensures (ap (λ (n : Counts). n.operators) c.counts-c.ensures) (omega arith)
    (sym c.guarantees_valid.ensures ∙ c.if-not-guarantees_valid.false) (sym c.rows_valid.ensures ∙ c.if-not-rows_valid.true) in
    record { meaning = fails; sums = not_passed }

pub sums_valid-requires : goal.sums_valid-requires
sums_valid-requires c =
    record {
      setup_known = (
        c.requires.setup_known.0,
        record {
          whole = search rules;
          guarantees = record {
            whole = search rules;
            in_range = guarantees_small _ _ _ _ (ap (λ (n : Counts). n.operators) c.counts-c.ensures) (sym c.guarantees_valid.ensures ∙ c.if-not-guarantees_valid.false);
          };
          rows = record {
            whole = search rules;
            few = search rules;
            tabled = rows_tabled _ _ _ _ c.requires.setup_known.0 (sym c.rows_valid.ensures ∙ c.if-not-rows_valid.false);
          };
        },
      );
      no_sums = c.requires.no_sums;
    }

pub returns : goal.returns
returns c =
    let decided =
    c.sums_valid.ensures.meaning
    ∙ sums_decide _ _ _ _ _ c.requires.setup_known.0 c.get-rows.ensures (ap (λ (n : Counts). n.operators) c.counts-c.ensures) (omega arith)
    (sym c.guarantees_valid.ensures ∙ c.if-not-guarantees_valid.false) (sym c.rows_valid.ensures ∙ c.if-not-rows_valid.false) in
    record { meaning = decided; sums = λ e. rw (← c.get-rows.ensures) c.sums_valid.ensures.sums }

-- What the state refuses confirm and withdraw for: of the checks that these kinds have, the first that applies.
use Rattle.std.specs.Prelude.{None, Some}
use Rattle.std.proofs.Common.{◌≡◌, ℕ, true, false, [], ◌∷◌, eq-eqb}
use Rattle.rules.specs.declared.Request.{Request}
use Rattle.rules.specs.declared.Refusal.TheVariants.{NoSuchRow, NotMirrored, MarginBroken, Uncovered}
use Rattle.rules.specs.Basics.{nth}
use Rattle.rules.specs.Verdicts.{first_to_apply}
use Rattle.rules.specs.Books.{Book, no_row, operator_of}
use Rattle.rules.specs.Requests.{confirm, withdraw}
use Rattle.rules.specs.Registration.{confirms, withdraws, mirrors, broken_hour, covered}
use Rattle.rules.specs.Calls.{confirmed_number, changed, state_checks}
use Rattle.book.specs.Kinds.{decided}

module _ (b : Book) (q : Request) where
  module _ (first : b.phase ≡ 1) where
    -- refusal 16 of withdraw
    pub no_row_to_withdraw : withdraws b.part.rows q ≡ false → decided withdraw b q ≡ Some NoSuchRow
    unfolding decided state_checks first_to_apply
    no_row_to_withdraw w = rw (eq-eqb _ 1 first, w)

    pub row_to_withdraw : withdraws b.part.rows q ≡ true → decided withdraw b q ≡ None
    unfolding decided state_checks first_to_apply
    row_to_withdraw w = rw (eq-eqb _ 1 first, w)

    -- refusals 16 to 19 of confirm
    pub no_row_to_confirm : confirms b.part.rows q ≡ None → decided confirm b q ≡ Some NoSuchRow
    unfolding decided state_checks first_to_apply
    no_row_to_confirm w = rw (eq-eqb _ 1 first, w)

    module _ (i : ℕ) (named : confirms b.part.rows q ≡ Some i) where
      pub terms_differ : mirrors q (nth b.part.rows (confirmed_number b q) no_row) ≡ false → decided confirm b q ≡ Some NotMirrored
      unfolding decided state_checks first_to_apply
      terms_differ w = rw (eq-eqb _ 1 first, w, named)

      module _ (alike-terms : mirrors q (nth b.part.rows (confirmed_number b q) no_row) ≡ true) where
        pub confirm_breaks : (h : ℕ) → broken_hour b.setup (changed confirm b (q ∷ [])).part.rows q.account ≡ Some h
            → decided confirm b q ≡ Some (MarginBroken h)
        unfolding decided state_checks first_to_apply
        confirm_breaks h w = rw (eq-eqb _ 1 first, alike-terms, w, named)

        module _ (whole : broken_hour b.setup (changed confirm b (q ∷ [])).part.rows q.account ≡ None) where
          pub confirm_uncovered : covered b.setup (changed confirm b (q ∷ [])).part (operator_of b.setup q.account) ≡ false
              → decided confirm b q ≡ Some Uncovered
          unfolding decided state_checks first_to_apply
          confirm_uncovered w = rw (eq-eqb _ 1 first, alike-terms, whole, w, named)

          pub confirm_passes : covered b.setup (changed confirm b (q ∷ [])).part (operator_of b.setup q.account) ≡ true
              → decided confirm b q ≡ None
          unfolding decided state_checks first_to_apply
          confirm_passes w = rw (eq-eqb _ 1 first, alike-terms, whole, w, named)

-- A guarantee replaced: the rows stay, so that the exposure is that of the present ones, and only the 8 bytes of the guarantee change.
use Rattle.std.specs.Prelude.{None, Some}
use Rattle.std.proofs.Common.{◌≡◌, ℕ, zero, suc, ◌+◌, ◌-◌, ◌*◌, ◌≤◌, Bool, true, false, List, [], ◌∷◌, length, sym, refl, ap, ◌∙◌, mul-le-mul_right, arith, get_or-set_same, eq-eqb, le-leb, leb-true}
use Rattle.wire.specs.Numbers.{le}
use Rattle.wire.specs.Regions.{splice}
use Rattle.units.specs.Units.{cents}
use Rattle.units.specs.declared.Cents.{Cents}
use Rattle.rules.specs.declared.Request.{Request}
use Rattle.rules.specs.declared.Refusal.TheVariants.{Uncovered}
use Rattle.rules.specs.Basics.{bit, put}
use Rattle.rules.specs.Limits.{most_hours, most_guarantee, thousand, book_size}
use Rattle.rules.specs.Verdicts.{first_to_apply, accepted}
use Rattle.rules.specs.Books.{Setup, Book, maintenance_at, guarantee_at}
use Rattle.rules.specs.Requests.{guarantee, in_range}
use Rattle.rules.specs.Registration.{exposure, covered}
use Rattle.rules.specs.Calls.{changed, given, state_checks, apply}
use Rattle.rules.specs.Opening.{guarantee_width}
use Rattle.image.specs.Layout.{present_offset}
use Rattle.image.specs.Valid.{is_sound, book_in}
use Rattle.image.proofs.Writing.BookWrites.{write_guarantee}
use Rattle.image.proofs.Keeping.KeepsChanges.{apply_keeps}
use Rattle.image.proofs.Keeping.KeepsKinds.{guarantee_allowed}
use Rattle.book.specs.Members.{IsOperator}
use Rattle.book.specs.Kinds.{decided, Ready}
use Rattle.book.proofs.StateLaws.{book_image, book_fits, book_is_sound}
use Rattle.book.proofs.Answers.{decided_clear, Answered, accepted_answered}
use Rattle.book.proofs.Readiness.{bare, ready_field, ready_input, ready_operator, ready_asked}
use Rattle.registration.specs.Cover.{covered_under}
use Rattle.registration.proofs.CoverLaws.{covered_at_guarantee, exposure-available}

-- ---- a request that is ready

-- it names an operator of the book and a guarantee in range
pub ready_guarantee : (b : Book) (q : Request) → Ready guarantee b q
    → IsOperator b q.operator × (q.guarantee.0 ≤ most_guarantee)
unfolding bit in_range
ready_guarantee b q r = (ready_operator b q r, leb-true _ _ (ready_field guarantee b q r 10 (omega arith) refl))

-- ---- what the state decides

put_same : (gs : List Cents) (o : ℕ) (g : Cents) → 1 ≤ o → o ≤ length gs → guarantee_at (put gs o g) o ≡ g
put_same gs zero g l h = absurd (omega arith)
put_same gs (suc i) g l h = get_or-set_same gs i g (cents 0) (omega arith)

module _ (b : Book) (q : Request) (first : b.phase ≡ 1) (low : 1 ≤ q.operator) (high : q.operator ≤ length b.part.guarantees) where
  new_guarantee_covered : covered b.setup (changed guarantee b (q ∷ [])).part q.operator
      ≡ covered_under b q.guarantee.0 q.operator
  unfolding apply
  new_guarantee_covered =
      covered_at_guarantee b.setup (changed guarantee b (q ∷ [])).part q.operator q.guarantee.0
      (ap (λ (g : Cents). g.0) (put_same b.part.guarantees q.operator q.guarantee low high))

  -- refusal 19: the exposure is not covered
  pub too_little_guarantee_in_force : (t : Bool)
      → t ≡ covered_under b q.guarantee.0 q.operator
      → t ≡ false → decided guarantee b q ≡ Some Uncovered
  unfolding decided state_checks first_to_apply
  too_little_guarantee_in_force t e f = rw (eq-eqb _ 1 first, new_guarantee_covered ∙ sym e ∙ f)

  pub enough_guarantee_in_force : (t : Bool)
      → t ≡ covered_under b q.guarantee.0 q.operator
      → t ≡ true → decided guarantee b q ≡ None
  unfolding decided state_checks first_to_apply
  enough_guarantee_in_force t e f = rw (eq-eqb _ 1 first, new_guarantee_covered ∙ sym e ∙ f)

-- a guarantee that is no lower than the one in force covers the exposure of a book
pub no_lower_covers : (s : List ℕ) → is_sound s ≡ true → (o g : ℕ) (held : Cents) → IsOperator (book_in s) o
    → held ≡ guarantee_at (book_in s).part.guarantees o → held.0 ≤ g
    → true ≡ covered_under (book_in s) g o
no_lower_covers s h o g held own e more =
    let u : Setup = (book_in s).setup in
    let fits = exposure-available s o h own in
    let room = mul-le-mul_right (thousand - maintenance_at u o) (rw e at more) in
    sym (le-leb (exposure u (book_in s).part.rows o) (g * (thousand - maintenance_at u o)) (omega arith))

-- the same, of the number of cents alone
pub raised_covers : (s : List ℕ) → is_sound s ≡ true → (o g : ℕ) → IsOperator (book_in s) o
    → (guarantee_at (book_in s).part.guarantees o).0 ≤ g → true ≡ covered_under (book_in s) g o
raised_covers s h o g own more = no_lower_covers s h o g _ own refl more

-- ---- what is written

pub guarantee_answered : (s t : List ℕ) (h : is_sound s ≡ true) (q : Request) (at : ℕ) → Ready guarantee (book_in s) q
    → decided guarantee (book_in s) q ≡ None → at ≡ present_offset + guarantee_width * (q.operator - 1)
    → t ≡ splice s at (le 8 q.guarantee.0) → Answered guarantee s q (accepted 0) t
unfolding given
guarantee_answered s t h q at r d place e =
    let o = ready_guarantee (book_in s) q r in
    let all = (book_is_sound s h).part_sound.guarantees_all in
    let low = o.0.0 in
    let high = o.0.1 in
    accepted_answered guarantee s q h t 0 d refl
    (e
    ∙ ap (λ (x : List ℕ). splice x at (le 8 q.guarantee.0)) (book_image s h)
    ∙ write_guarantee most_hours book_size (book_in s) (book_fits s h) q.operator (q.operator - 1) at q.guarantee (omega arith) (omega arith) (omega arith))
    (apply_keeps _ (book_in s) (book_is_sound s h)
    (guarantee_allowed (book_in s) (q ∷ []) (book_is_sound s h) bare (ready_asked guarantee (book_in s) q r refl) (ready_input guarantee (book_in s) q r bare refl) (decided_clear guarantee (book_in s) q d)))

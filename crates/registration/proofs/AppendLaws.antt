-- Rows put one after the other behind those that stand, and counted, make the image of the book with them in.
use Rattle.std.proofs.Common.{◌≡◌, ℕ, ◌+◌, ◌≤◌, true, List, [], ◌∷◌, ◌++◌, length, sym, refl, ap, ◌∙◌, append_assoc, append-nil, arith, length-append}
use Rattle.rules.specs.declared.Row.{Row}
use Rattle.rules.specs.Basics.{Each, nil, cons}
use Rattle.rules.specs.Limits.{most_hours, most_rows, book_size}
use Rattle.rules.specs.Books.{Book, with_rows}
use Rattle.rules.specs.Registration.{pending}
use Rattle.rules.specs.Calls.{apply, add_rows}
use Rattle.image.specs.Layout.{present_offset, row_offset}
use Rattle.image.specs.Image.{image}
use Rattle.image.proofs.Writing.Sizes.{Fits}
use Rattle.image.proofs.Writing.BookWrites.{write_row}
use Rattle.registration.specs.Proposing.{rows_appended}

fits_more : (b : Book) (r : Row) → Fits b → length b.part.rows + 1 ≤ most_rows → Fits (with_rows b (b.part.rows ++ r ∷ []))
fits_more b r f few =
    record {
      setup_fits = f.setup_fits;
      schedules_fit = f.schedules_fit;
      part_fits = record { guarantees_fit = f.part_fits.guarantees_fit; rows_fit = omega (arith, few, length-append b.part.rows (r ∷ [])) };
      saved_fits = f.saved_fits;
      asks_fit = f.asks_fit;
    }

pub rows_appended_lem : (b : Book) {rows : List Row} (n : ℕ) → Fits b → Each (λ r. pending r ≡ true) rows → n ≡ length b.part.rows
    → n + length rows ≤ most_rows → rows_appended (image most_hours book_size b) n rows ≡ image most_hours book_size (apply (add_rows rows) b)
unfolding rows_appended apply
rows_appended_lem b n f nil e few = ap (λ (rows : List Row). image most_hours book_size (with_rows b rows)) (sym (append-nil b.part.rows))
rows_appended_lem b n f (cons {x = r} {xs = rs} waits es) e few =
    let more : List Row = b.part.rows ++ r ∷ [] in
    ap (λ (s : List ℕ). rows_appended s (n + 1) rs) (write_row most_hours book_size b f r n (present_offset + row_offset n) waits e (omega arith) refl)
    ∙ rows_appended_lem (with_rows b more) (n + 1) (fits_more b r f (omega arith)) es (omega (arith, e, length-append b.part.rows (r ∷ []))) (omega arith)
    ∙ ap (λ (rows : List Row). image most_hours book_size (with_rows b rows)) (append_assoc b.part.rows (r ∷ []) rs)

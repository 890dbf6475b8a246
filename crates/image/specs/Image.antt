-- The image of a plain book in bytes (document 01, "Opening"; document 02, note 4), and the plain book that bytes say.
use Rattle.std.specs.Prelude.{ℕ, zero, suc, ◌-◌, List, [], ◌∷◌, length, get_or, replicate, eqb, if◌then◌else◌, Option, None, Some}
use Rattle.wire.specs.Numbers.{number, number_at, le, signed}
use Rattle.wire.specs.Parts.{zeros, flat, cut, pack, slots, padded}
use Rattle.units.specs.Units.{kwh, cents, cents_per_mwh}
use Rattle.rules.specs.declared.Row.{Row}
use Rattle.rules.specs.declared.Schedule.{Schedule}
use Rattle.rules.specs.Basics.{up_to, entries, joined}
use Rattle.rules.specs.Limits.{most_operators, most_accounts, most_rows, most_schedules}
use Rattle.rules.specs.Books.{Setup, Part, Book, operator_count}
use Rattle.rules.specs.Opening.{setup_bytes, setup_of, guarantee_width}
use Rattle.rules.specs.Registration.{net_of, figure}
use Rattle.image.specs.Layout.{setup_room, row_widths, row_width, schedule_widths, schedule_width, part_widths, part_size, used_size, book_widths, net_width, setup_section, phase_section, flag_section, schedule_count_section, schedules_section, present_section, saved_section, asks_section, guarantees_section, row_count_section, rows_section}

-- ---- the image

-- a row, in the order in which it reads out
abbrev pub row_values : Row → List ℕ
row_values r =
    r.proposer ∷ r.counterparty ∷ r.code ∷ r.side ∷ r.first ∷ r.last ∷ r.quantity.0 ∷ r.status ∷ []

unfoldable pub row_bytes : Row → List ℕ
row_bytes r = pack row_widths (row_values r)

abbrev pub schedule_values : Schedule → List ℕ
schedule_values x = x.point ∷ x.side ∷ x.hour ∷ x.quantity.0 ∷ x.price.0 ∷ []

unfoldable pub schedule_bytes : Schedule → List ℕ
schedule_bytes x = pack schedule_widths (schedule_values x)

-- net positions, signed, by account and then period
unfoldable pub account_nets : ℕ → List Row → ℕ → List ℕ
account_nets top rows a = joined (λ h. signed net_width (figure (net_of rows a h))) (up_to top)

unfoldable pub nets_bytes : ℕ → List Row → List ℕ
nets_bytes top rows = joined (account_nets top rows) (up_to most_accounts)

-- a part: its guarantees, how many rows, the rows, the net positions; unused bytes are zero
unfoldable pub part_sections : ℕ → Part → List (List ℕ)
part_sections top p =
    slots guarantee_width most_operators (λ g. le guarantee_width g.0) p.guarantees
    ∷ le 2 (length p.rows)
    ∷ slots row_width most_rows row_bytes p.rows
    ∷ nets_bytes top p.rows
    ∷ []

unfoldable pub part_bytes : ℕ → Part → List ℕ
part_bytes top p = flat (part_sections top p)

-- the place of an account's ask: the row, or zeros where none stands
abbrev pub ask_bytes : Option Row → List ℕ
ask_bytes None = zeros row_width
ask_bytes (Some r) = row_bytes r

-- a batch is open
abbrev pub flag : Option Part → ℕ
flag None = 0
flag (Some p) = 1

-- the part saved at the opening of a batch; zeros without one
unfoldable pub saved_bytes : ℕ → Option Part → List ℕ
saved_bytes top None = zeros (part_size top)
saved_bytes top (Some p) = part_bytes top p

-- the set-up with its guarantees zero: those in force are in the part
unfoldable pub stored_setup : Setup → List ℕ
stored_setup u = setup_bytes u (replicate (operator_count u) (cents 0))

-- the sections of a book, with these bytes for its present part
unfoldable pub sections_with : ℕ → ℕ → Book → List ℕ → List (List ℕ)
sections_with top size b part =
    padded setup_room (stored_setup b.setup)
    ∷ le 1 b.phase
    ∷ le 1 (flag b.saved)
    ∷ le 2 (length b.schedules)
    ∷ slots schedule_width most_schedules schedule_bytes b.schedules
    ∷ part
    ∷ saved_bytes top b.saved
    ∷ slots row_width most_accounts ask_bytes b.asks
    ∷ zeros (size - used_size top)
    ∷ []

unfoldable pub sections : ℕ → ℕ → Book → List (List ℕ)
sections top size b = sections_with top size b (part_bytes top b.part)

unfoldable pub image : ℕ → ℕ → Book → List ℕ
image top size b = flat (sections top size b)

-- ---- the book that bytes say

unfoldable pub row_in : List ℕ → Row
row_in x =
    record {
      proposer = number_at x 0 1;
      counterparty = number_at x 1 1;
      code = number_at x 2 8;
      side = number_at x 10 1;
      first = number_at x 11 1;
      last = number_at x 12 1;
      quantity = kwh (number_at x 13 4);
      status = number_at x 17 1;
    }

-- the ask in a place with this row: none where the status is 0
abbrev pub asked_for : Row → Option Row
asked_for r = if eqb r.status 0 then None else Some r

-- the ask in the bytes of its place
unfoldable pub ask_in : List ℕ → Option Row
ask_in x = asked_for (row_in x)

unfoldable pub schedule_in : List ℕ → Schedule
schedule_in x =
    record {
      point = number_at x 0 1;
      side = number_at x 1 1;
      hour = number_at x 2 1;
      quantity = kwh (number_at x 3 4);
      price = cents_per_mwh (number_at x 7 4);
    }

-- the part in these sections, of a book with so many operators
unfoldable pub part_of : ℕ → List (List ℕ) → Part
part_of operators c =
    record {
      guarantees = entries guarantee_width (λ x. cents (number x)) operators (get_or c guarantees_section []);
      rows = entries row_width row_in (number (get_or c row_count_section [])) (get_or c rows_section []);
    }

unfoldable pub part_in : ℕ → ℕ → List ℕ → Part
part_in top operators s = part_of operators (cut (part_widths top) s)

unfoldable pub saved_in : ℕ → ℕ → ℕ → List ℕ → Option Part
saved_in zero top operators s = None
saved_in (suc flag) top operators s = Some (part_in top operators s)

unfoldable pub book_of : ℕ → List (List ℕ) → Book
book_of top c =
    let u = setup_of (get_or c setup_section []) in
    record {
      setup = u;
      phase = number (get_or c phase_section []);
      part = part_in top (operator_count u) (get_or c present_section []);
      schedules = entries schedule_width schedule_in (number (get_or c schedule_count_section [])) (get_or c schedules_section []);
      saved = saved_in (number (get_or c flag_section [])) top (operator_count u) (get_or c saved_section []);
      asks = entries row_width ask_in most_accounts (get_or c asks_section []);
    }

unfoldable pub decode : ℕ → ℕ → List ℕ → Book
decode top size s = book_of top (cut (book_widths top size) s)

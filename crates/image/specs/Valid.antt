-- Which plain books are valid, and which bytes are a book (document 01, "Opening"; document 02, note 4).
use Rattle.std.specs.Prelude.{ℕ, ◌^◌, List, [], ◌∷◌, Bool, true, false, not, ◌&&◌, ◌||◌, length, replicate, eqb, leb, ltb, Option, None, Some}
use Rattle.units.specs.Units.{cents}
use Rattle.rules.specs.declared.Row.{Row}
use Rattle.rules.specs.declared.Schedule.{Schedule}
use Rattle.rules.specs.Basics.{any_passes, every, all_of, is_some, nth, up_to, within}
use Rattle.rules.specs.Limits.{most_energy, most_price, most_guarantee, most_rows, most_schedules, most_accounts, most_hours, book_size}
use Rattle.rules.specs.Books.{Account, Setup, Part, Book, counts_of, operator_count, account_count, point_count, periods, margins_at, selling_side, buying_side, pending_status, withdrawn_status, injecting_side, withdrawing_side, registration_phase, settled_phase}
use Rattle.rules.specs.Opening.{bad_counts, operators_of, faulty_offset}
use Rattle.rules.specs.Registration.{pending, same_terms, alike, account_hour, keeps_margins, covered}
use Rattle.rules.specs.Asks.{asks_stand}
use Rattle.image.specs.Image.{image, decode}

-- ---- the set-up: one that opening would accept

-- a lower and an upper margin for each hour
abbrev pub margins_by_hour : ℕ → Account → Bool
margins_by_hour hours x = eqb (length x.lower) hours && eqb (length x.upper) hours

abbrev pub setup_tests : Setup → List Bool
setup_tests u =
    not (bad_counts (counts_of u))
    ∷ eqb (length u.estimates) u.hours
    ∷ every (margins_by_hour u.hours) u.accounts
    ∷ not (is_some (faulty_offset u (operators_of (replicate (operator_count u) (cents 0)) u.maintenance)))
    ∷ []

unfoldable pub setup_ok : Setup → Bool
setup_ok u = all_of (setup_tests u)

-- ---- rows and schedules: every field in range; rows have two different accounts

abbrev pub row_tests : Setup → Row → List Bool
row_tests u r =
    within 1 r.proposer (account_count u)
    ∷ within 1 r.counterparty (account_count u)
    ∷ not (eqb r.proposer r.counterparty)
    ∷ ltb r.code (256 ^ 8)
    ∷ within selling_side r.side buying_side
    ∷ within 1 r.first (periods u)
    ∷ within r.first r.last (periods u)
    ∷ within 1 r.quantity.0 most_energy
    ∷ within pending_status r.status withdrawn_status
    ∷ []

unfoldable pub row_ok : Setup → Row → Bool
row_ok u r = all_of (row_tests u r)

abbrev pub schedule_tests : Setup → Schedule → List Bool
schedule_tests u x =
    within 1 x.point (point_count u)
    ∷ within injecting_side x.side withdrawing_side
    ∷ within 1 x.hour (periods u)
    ∷ within 1 x.quantity.0 most_energy
    ∷ leb x.price.0 most_price
    ∷ []

unfoldable pub schedule_ok : Setup → Schedule → Bool
schedule_ok u x = all_of (schedule_tests u x)

-- ---- a part, the present and the saved one alike

-- no two pending rows are alike in proposer, counterparty and code
unfoldable pub no_twins : List Row → Bool
no_twins [] = true
no_twins (r ∷ rs) = not (pending r && any_passes (alike r.proposer r.counterparty r.code) rs) && no_twins rs

-- the account keeps its margins in every hour, each with the pair of that hour
abbrev pub account_keeps : Setup → List Row → ℕ → Bool
account_keeps u rows a = every (λ h. keeps_margins (margins_at u a h) (account_hour rows a h)) (up_to (periods u))

-- margins are kept by every account in every hour
unfoldable pub margins_kept : Setup → List Row → Bool
margins_kept u rows = every (account_keeps u rows) (up_to (account_count u))

-- no operator's exposure is above what is available
unfoldable pub operators_covered : Setup → Part → Bool
operators_covered u p = every (covered u p) (up_to (operator_count u))

abbrev pub part_tests : Setup → Part → List Bool
part_tests u p =
    eqb (length p.guarantees) (operator_count u)
    ∷ every (λ g. leb g.0 most_guarantee) p.guarantees
    ∷ leb (length p.rows) most_rows
    ∷ every (row_ok u) p.rows
    ∷ no_twins p.rows
    ∷ margins_kept u p.rows
    ∷ operators_covered u p
    ∷ []

unfoldable pub part_ok : Setup → Part → Bool
part_ok u p = all_of (part_tests u p)

-- the saved rows are the first of the present ones but for their status: a saved pending row may since be confirmed or withdrawn
unfoldable pub follows : List Row → List Row → Bool
follows [] ys = true
follows (x ∷ xs) [] = false
follows (x ∷ xs) (y ∷ ys) = same_terms x y && (eqb x.status y.status || pending x) && follows xs ys

unfoldable pub saved_ok : Setup → List Row → Option Part → Bool
saved_ok u rows None = true
saved_ok u rows (Some p) = part_ok u p && follows p.rows rows

-- ---- asks

-- the place of an account has no ask, or a pending row of its own with every field in range
abbrev pub ask_ok : Setup → ℕ → Option Row → Bool
ask_ok u a None = true
ask_ok u a (Some r) = eqb r.proposer a && pending r && row_ok u r

abbrev pub asks_ok : Setup → List (Option Row) → Bool
asks_ok u asks = eqb (length asks) most_accounts && every (λ a. ask_ok u a (nth asks a None)) (up_to most_accounts)

-- ---- a book: none pending after phase 1, schedules only after it, an open batch only in it

abbrev pub book_tests : Book → List Bool
book_tests b =
    setup_ok b.setup
    ∷ within registration_phase b.phase settled_phase
    ∷ part_ok b.setup b.part
    ∷ saved_ok b.setup b.part.rows b.saved
    ∷ leb (length b.schedules) most_schedules
    ∷ every (schedule_ok b.setup) b.schedules
    ∷ (eqb b.phase registration_phase || not (any_passes pending b.part.rows))
    ∷ (not (eqb b.phase registration_phase) || eqb (length b.schedules) 0)
    ∷ (eqb b.phase registration_phase || not (is_some b.saved))
    ∷ asks_ok b.setup b.asks
    ∷ []

-- every section passes its tests: a sound book
unfoldable pub book_ok : Book → Bool
book_ok b = all_of (book_tests b)

-- a valid book is sound, and register would accept each of its asks
unfoldable pub valid : Book → Bool
valid b = book_ok b && asks_stand b

-- ---- bytes that are a book: the image of a valid one

unfoldable pub same : List ℕ → List ℕ → Bool
same [] [] = true
same [] (y ∷ ys) = false
same (x ∷ xs) [] = false
same (x ∷ xs) (y ∷ ys) = eqb x y && same xs ys

-- the image of a sound book
unfoldable pub is_sound_of : ℕ → ℕ → List ℕ → Bool
is_sound_of top size s = eqb (length s) size && book_ok (decode top size s) && same (image top size (decode top size s)) s

-- a book: the image of a sound one whose asks register would accept
unfoldable pub is_book_of : ℕ → ℕ → List ℕ → Bool
is_book_of top size s = is_sound_of top size s && asks_stand (decode top size s)

-- today's book: at most 25 hours, 49,152 bytes
abbrev pub is_book : List ℕ → Bool
is_book s = is_book_of most_hours book_size s

-- bytes of a sound book: the functions of the kinds leave one, before asks are cleared
abbrev pub is_sound : List ℕ → Bool
is_sound s = is_sound_of most_hours book_size s

abbrev pub book_bytes : Book → List ℕ
book_bytes b = image most_hours book_size b

abbrev pub book_in : List ℕ → Book
book_in s = decode most_hours book_size s

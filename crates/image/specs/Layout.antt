-- The layout of a book's bytes, as docs/LAYOUT.md has it: how wide each section is, and where what is written begins.
-- `top` is the most periods that a day can have, 25 hours today, and `size` the number of bytes.
use Rattle.std.specs.Prelude.{ℕ, ◌+◌, ◌-◌, ◌*◌, List, [], ◌∷◌}
use Rattle.rules.specs.Limits.{most_hours, most_operators, most_accounts, most_rows, most_schedules}
use Rattle.rules.specs.Opening.{guarantee_width}

-- periods of a day of any kind: four quarters to an hour
abbrev pub most_periods : ℕ
most_periods = 4 * most_hours

-- ---- widths

-- room for a set-up, today's and later ones
abbrev pub setup_room : ℕ
setup_room = 8192

-- account, counterparty, code, side, first hour, last hour, quantity, status
abbrev pub row_widths : List ℕ
row_widths = 1 ∷ 1 ∷ 8 ∷ 1 ∷ 1 ∷ 1 ∷ 4 ∷ 1 ∷ []

abbrev pub row_width : ℕ
row_width = 18

-- point, side, hour, quantity, price
abbrev pub schedule_widths : List ℕ
schedule_widths = 1 ∷ 1 ∷ 1 ∷ 4 ∷ 4 ∷ []

abbrev pub schedule_width : ℕ
schedule_width = 11

-- a net position
abbrev pub net_width : ℕ
net_width = 4

-- the nets of an account: one for each period
abbrev pub account_width : ℕ → ℕ
account_width top = net_width * top

-- ---- the sections of a part and of a book, in their order

abbrev pub guarantees_section : ℕ
guarantees_section = 0

abbrev pub row_count_section : ℕ
row_count_section = 1

abbrev pub rows_section : ℕ
rows_section = 2

abbrev pub nets_section : ℕ
nets_section = 3

abbrev pub setup_section : ℕ
setup_section = 0

abbrev pub phase_section : ℕ
phase_section = 1

abbrev pub flag_section : ℕ
flag_section = 2

abbrev pub schedule_count_section : ℕ
schedule_count_section = 3

abbrev pub schedules_section : ℕ
schedules_section = 4

abbrev pub present_section : ℕ
present_section = 5

abbrev pub saved_section : ℕ
saved_section = 6

abbrev pub asks_section : ℕ
asks_section = 7

abbrev pub spare_section : ℕ
spare_section = 8

-- ---- places in a part

abbrev pub guarantees_offset : ℕ
guarantees_offset = 0

abbrev pub row_count_offset : ℕ
row_count_offset = guarantee_width * most_operators

-- a count of rows has 2 bytes
abbrev pub rows_offset : ℕ
rows_offset = row_count_offset + 2

abbrev pub nets_offset : ℕ
nets_offset = rows_offset + row_width * most_rows

-- the row that has i before it
abbrev pub row_offset : ℕ → ℕ
row_offset i = rows_offset + row_width * i

-- the net of an account in a period, both from 1
abbrev pub net_offset : ℕ → ℕ → ℕ → ℕ
net_offset top a h = nets_offset + (account_width top * (a - 1) + net_width * (h - 1))

-- the status of a row, past what else is in it
abbrev pub status_offset : ℕ
status_offset = 17

-- a part: guarantees, row count, rows, nets by account and then period
abbrev pub part_widths : ℕ → List ℕ
part_widths top = guarantee_width * most_operators ∷ 2 ∷ row_width * most_rows ∷ most_accounts * account_width top ∷ []

abbrev pub part_size : ℕ → ℕ
part_size top = nets_offset + most_accounts * account_width top

-- ---- places in a book

abbrev pub phase_offset : ℕ
phase_offset = setup_room

abbrev pub flag_offset : ℕ
flag_offset = phase_offset + 1

abbrev pub schedule_count_offset : ℕ
schedule_count_offset = flag_offset + 1

-- a count of schedules has 2 bytes
abbrev pub schedules_offset : ℕ
schedules_offset = schedule_count_offset + 2

abbrev pub present_offset : ℕ
present_offset = schedules_offset + schedule_width * most_schedules

abbrev pub saved_offset : ℕ → ℕ
saved_offset top = present_offset + part_size top

abbrev pub asks_offset : ℕ → ℕ
asks_offset top = saved_offset top + part_size top

-- a place for each account that a day may have, as wide as a row
abbrev pub asks_size : ℕ
asks_size = row_width * most_accounts

-- the place of an account's ask, accounts from 1
abbrev pub ask_offset : ℕ → ℕ → ℕ
ask_offset top a = asks_offset top + row_width * (a - 1)

-- what is not spare
abbrev pub used_size : ℕ → ℕ
used_size top = present_offset + 2 * part_size top + asks_size

-- a book: set-up, phase, batch flag, schedule count, schedules, present part, saved part, asks, spare
abbrev pub book_widths : ℕ → ℕ → List ℕ
book_widths top size =
    setup_room ∷ 1 ∷ 1 ∷ 2 ∷ schedule_width * most_schedules ∷ part_size top ∷ part_size top ∷ asks_size ∷ (size - used_size top) ∷ []

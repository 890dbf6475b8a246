-- What fits its room, asked as sizes and never as validity: each section of an image then has its width, whatever values stand in it.
use Rattle.std.specs.Prelude.{Option, None, Some}
use Prim.Native.Nat.{ℕ, suc, ◌*◌, ◌^◌, ◌≤◌, ◌<◌}
use mathlib.Core.Path.{◌≡◌, refl, ap, ◌∙◌}
use mathlib.Core.List.{List, [], ◌∷◌, map}
use native.Mathlib.Omega.{arith}
use lib.ListN.{length, length-append, length-map, length-replicate}
use Rattle.wire.specs.Numbers.{le, signed}
use Rattle.wire.specs.Parts.{flat, Wide, Small}
use Rattle.wire.proofs.NumberLaws.{length-le, length-signed}
use Rattle.wire.proofs.ZeroLaws.{length-zeros, length_padded}
use Rattle.wire.proofs.PartLaws.{length-flat}
use Rattle.wire.proofs.PackLaws.{length-pack}
use Rattle.wire.proofs.SlotLaws.{uniform_map, length_uniform, length_slots}
use Rattle.units.specs.declared.Kwh.{Kwh}
use Rattle.units.specs.declared.Cents.{Cents}
use Rattle.units.specs.Units.{cents}
use Rattle.rules.specs.declared.Counts.{Counts}
use Rattle.rules.specs.declared.Operator.{Operator}
use Rattle.rules.specs.declared.Point.{Point}
use Rattle.rules.specs.declared.Row.{Row}
use Rattle.rules.specs.declared.Schedule.{Schedule}
use Rattle.rules.specs.Basics.{joined, up_to, Each, cons}
use Rattle.rules.specs.Limits.{most_operators, most_accounts, most_rows, most_schedules}
use Rattle.rules.specs.Books.{Account, Setup, Part, Book, counts_of, operator_count, account_count, point_count, periods}
use Rattle.rules.specs.Opening.{operator_bytes, margin_bytes, account_bytes, point_bytes, operators_of, setup_bytes, setup_length, operator_entry, margin_width, account_entry, point_entry, guarantee_width}
use Rattle.rules.specs.Registration.{net_of, figure}
use Rattle.rules.proofs.Basics.Searches.{counting-length, each_map, each_any}
use Rattle.rules.proofs.Setups.SetupShape.{length_most}
use Rattle.image.specs.Layout.{setup_room, row_widths, row_width, schedule_widths, schedule_width, account_width, part_widths, part_size, used_size, book_widths, net_width}
use Rattle.image.specs.Image.{row_values, row_bytes, schedule_values, schedule_bytes, account_nets, nets_bytes, part_sections, part_bytes, ask_bytes, saved_bytes, stored_setup, sections_with, sections, image}
use Rattle.image.proofs.Sound.Soundness.{MarginsAll, SoundSetup, SoundRow, SoundSchedule}
use Rattle.image.proofs.Sound.SoundBooks.{SoundPart, SavedSound, SoundBook}

-- ---- facts on parts that stand one after another: `first then second then tt`

infixr 5 ◌then◌
pub ◌then◌ : {A B : Type 0} → A → B → A × B
a then b = (a, b)

-- ---- what fits its room

-- a row's accounts, hours and quantity have a place
pub record RowFits (top : ℕ) (r : Row) : Type 0 where
  pub proposer_low : 1 ≤ r.proposer
  pub proposer_high : r.proposer ≤ most_accounts
  pub counterparty_low : 1 ≤ r.counterparty
  pub counterparty_high : r.counterparty ≤ most_accounts
  pub first_low : 1 ≤ r.first
  pub in_order : r.first ≤ r.last
  pub last_high : r.last ≤ top
  pub quantity_fits : r.quantity.0 ≤ 256 ^ 4

pub record PartFits (p : Part) : Type 0 where
  pub guarantees_fit : length p.guarantees ≤ most_operators
  pub rows_fit : length p.rows ≤ most_rows

abbrev pub SavedFits : Option Part → Type 0
SavedFits None = Unit {0}
SavedFits (Some p) = PartFits p

pub record Fits (b : Book) : Type 0 where
  pub setup_fits : length (stored_setup b.setup) ≤ setup_room
  pub schedules_fit : length b.schedules ≤ most_schedules
  pub part_fits : PartFits b.part
  pub saved_fits : SavedFits b.saved
  pub asks_fit : length b.asks ≤ most_accounts

-- ---- lengths

pub length_row : (r : Row) → length (row_bytes r) ≡ row_width
unfolding row_bytes
length_row r = length-pack row_widths (row_values r) refl

pub length_ask : (o : Option Row) → length (ask_bytes o) ≡ row_width
length_ask None = length-zeros row_width
length_ask (Some r) = length_row r

pub length-schedule : (x : Schedule) → length (schedule_bytes x) ≡ schedule_width
unfolding schedule_bytes
length-schedule x = length-pack schedule_widths (schedule_values x) refl

-- a guarantee has 8 bytes
pub length_guarantee : (g : Cents) → length (le guarantee_width g.0) ≡ guarantee_width
length_guarantee g = length-le guarantee_width g.0

pub length-account : (top : ℕ) (rows : List Row) (a : ℕ) → length (account_nets top rows a) ≡ account_width top
unfolding account_nets joined
length-account top rows a =
    let net : ℕ → List ℕ = λ h. signed net_width (figure (net_of rows a h)) in
    length_uniform net_width (map net (up_to top)) (uniform_map net_width net (up_to top) (λ h. length-signed net_width _))
    ∙ rw (length-map (up_to top) net, counting-length top 1)

pub length_nets : (top : ℕ) (rows : List Row) → length (nets_bytes top rows) ≡ most_accounts * account_width top
unfolding nets_bytes joined
length_nets top rows =
    let nets : ℕ → List ℕ = account_nets top rows in
    length_uniform (account_width top) (map nets (up_to most_accounts)) (uniform_map (account_width top) nets (up_to most_accounts) (length-account top rows))
    ∙ rw (length-map (up_to most_accounts) nets, counting-length most_accounts 1) (omega arith)

-- ---- a part

pub wide_part : (top : ℕ) (p : Part) → PartFits p → Wide (part_widths top) (part_sections top p)
unfolding part_sections
wide_part top p f =
    length_slots guarantee_width most_operators (λ g. le guarantee_width g.0) length_guarantee p.guarantees f.guarantees_fit
    then length-le 2 _
    then length_slots row_width most_rows row_bytes length_row p.rows f.rows_fit
    then length_nets top p.rows
    then tt

pub length_part : (top : ℕ) (p : Part) → PartFits p → length (part_bytes top p) ≡ part_size top
unfolding part_bytes
length_part top p f = length-flat (part_widths top) (part_sections top p) (wide_part top p f) ∙ omega arith

pub length_saved : (top : ℕ) (o : Option Part) → SavedFits o → length (saved_bytes top o) ≡ part_size top
unfolding saved_bytes
length_saved top None f = length-zeros (part_size top)
length_saved top (Some p) f = length_part top p f

-- ---- a book

-- with these bytes for its present part
pub wide_with : (top size : ℕ) (b : Book) (part : List ℕ) → Fits b → length part ≡ part_size top
    → Wide (book_widths top size) (sections_with top size b part)
unfolding sections_with
wide_with top size b part f h =
    length_padded setup_room (stored_setup b.setup) f.setup_fits
    then length-le 1 _
    then length-le 1 _
    then length-le 2 _
    then length_slots schedule_width most_schedules schedule_bytes length-schedule b.schedules f.schedules_fit
    then h
    then length_saved top b.saved f.saved_fits
    then length_slots row_width most_accounts ask_bytes length_ask b.asks f.asks_fit
    then length-zeros _
    then tt

pub wide_book : (top size : ℕ) (b : Book) → Fits b → Wide (book_widths top size) (sections top size b)
unfolding sections
wide_book top size b f = wide_with top size b (part_bytes top b.part) f (length_part top b.part f.part_fits)

pub length-image : (top size : ℕ) (b : Book) → Fits b → used_size top ≤ size → length (image top size b) ≡ size
unfolding image
length-image top size b f h = length-flat (book_widths top size) (sections top size b) (wide_book top size b f) ∙ omega arith

-- ---- the stored set-up

pub length_joined : {A : Type 0} (w : ℕ) (bytes : A → List ℕ) (xs : List A) → Each (λ x. length (bytes x) ≡ w) xs
    → length (joined bytes xs) ≡ w * length xs
unfolding joined flat
length_joined w bytes [] e = omega arith
length_joined w bytes (x ∷ xs) (cons l ls) = length-append (bytes x) (joined bytes xs) ∙ omega (arith, length_joined w bytes xs ls)

pub length-operator_bytes : (x : Operator) → length (operator_bytes x) ≡ operator_entry
length-operator_bytes x = length-pack (8 ∷ 2 ∷ []) _ refl

pub length-margin_bytes : (x : Kwh) → length (margin_bytes x) ≡ margin_width
length-margin_bytes x = length-le margin_width x.0

pub length_margins : (xs : List Kwh) → length (joined margin_bytes xs) ≡ margin_width * length xs
length_margins xs = length_joined margin_width margin_bytes xs (each_any xs length-margin_bytes)

-- an account with a lower and an upper margin for each hour has its width
pub length-account_bytes : (n : Counts) (x : Account) → MarginsAll n.hours x → length (account_bytes x) ≡ account_entry n
unfolding account_entry
length-account_bytes n x m =
    let front = length-pack (1 ∷ 1 ∷ []) (x.operator ∷ x.kind ∷ []) refl in
    rw (length-append, length-append) (omega (arith, length_margins x.lower, length_margins x.upper, m.lower_all, m.upper_all))

pub length-point_bytes : (x : Point) → length (point_bytes x) ≡ point_entry
length-point_bytes x = length-pack (1 ∷ 1 ∷ 1 ∷ 4 ∷ 4 ∷ []) _ refl

-- as many operators as guarantees and maintenances
pub length_operators : (gs : List Cents) (ms : List ℕ) → length gs ≡ length ms → length (operators_of gs ms) ≡ length ms
unfolding operators_of
length_operators [] [] e = refl
length_operators [] (m ∷ ms) e = absurd (omega arith)
length_operators (g ∷ gs) [] e = absurd (omega arith)
length_operators (g ∷ gs) (m ∷ ms) e = ap suc (length_operators gs ms (omega arith))

-- a set-up with a guarantee for each operator, and an estimate and each account's margins for each hour, is as long as its counts say
pub length_setup : (u : Setup) (gs : List Cents) → length gs ≡ operator_count u → length u.estimates ≡ u.hours
    → Each (MarginsAll u.hours) u.accounts → length (setup_bytes u gs) ≡ setup_length (counts_of u)
unfolding setup_bytes
length_setup u gs g e m =
    let o = length_operators gs u.maintenance g in
    let le4 = length_joined 4 (λ p. le 4 p.0) u.estimates (each_any _ (λ p. length-le 4 p.0)) in
    let lo = length_joined operator_entry operator_bytes (operators_of gs u.maintenance) (each_any _ length-operator_bytes) in
    let la = length_joined (account_entry (counts_of u)) account_bytes u.accounts (each_map (length-account_bytes (counts_of u)) m) in
    let lp = length_joined point_entry point_bytes u.points (each_any _ length-point_bytes) in
    rw (length-append, length-append, length-append) (omega arith)

pub length_stored : (u : Setup) → length u.estimates ≡ u.hours → Each (MarginsAll u.hours) u.accounts
    → length (stored_setup u) ≡ setup_length (counts_of u)
unfolding stored_setup
length_stored u e m = length_setup u _ (length-replicate (operator_count u) (cents 0)) e m

-- a sound set-up has room
pub sound_short : (u : Setup) → SoundSetup u → setup_length (counts_of u) ≤ setup_room
sound_short u k = length_most (counts_of u) k.hours_high k.operators_high k.accounts_high k.points_high

-- ---- what is sound fits

pub row_fits_of : (top : ℕ) (u : Setup) (r : Row) → account_count u ≤ most_accounts → periods u ≤ top → SoundRow u r → RowFits top r
row_fits_of top u r a h s =
    record {
      proposer_low = s.proposer_low;
      proposer_high = omega (arith, s.proposer_high);
      counterparty_low = s.counterparty_low;
      counterparty_high = omega (arith, s.counterparty_high);
      first_low = s.first_low;
      in_order = s.in_order;
      last_high = omega (arith, s.last_high);
      quantity_fits = omega (arith, s.quantity_high);
    }

-- each value of a row and of a schedule fits its width
pub row_small : (u : Setup) (r : Row) → SoundSetup u → SoundRow u r → Small row_widths (row_values r)
row_small u r s k =
    let hours : periods u < 256 = omega (arith, s.hours_high) in
    let accounts : account_count u < 256 = omega (arith, s.accounts_high) in
    omega (arith, k.proposer_high)
    then omega (arith, k.counterparty_high)
    then k.code_fits
    then omega (arith, k.side_high)
    then omega (arith, k.in_order, k.last_high)
    then omega (arith, k.last_high)
    then omega (arith, k.quantity_high)
    then omega (arith, k.status_high)
    then tt

pub schedule_small : (u : Setup) (x : Schedule) → SoundSetup u → SoundSchedule u x → Small schedule_widths (schedule_values x)
schedule_small u x s k =
    let hours : periods u < 256 = omega (arith, s.hours_high) in
    let points : point_count u < 256 = omega (arith, s.points_high) in
    omega (arith, k.point_high)
    then omega (arith, k.side_high)
    then omega (arith, k.hour_high)
    then omega (arith, k.quantity_high)
    then omega (arith, k.price_high)
    then tt

pub statuses_small : {u : Setup} {rows : List Row} → Each (SoundRow u) rows → Each (λ r. r.status < 256) rows
statuses_small e = each_map (λ r k. omega (arith, k.status_high)) e

pub part_fits_of : (u : Setup) (p : Part) → operator_count u ≤ most_operators → SoundPart u p → PartFits p
part_fits_of u p h s = record { guarantees_fit = omega (arith, s.guarantees_all); rows_fit = s.rows_high }

pub fits : (b : Book) → SoundBook b → Fits b
fits b s =
    let u = s.setup_sound in
    record {
      setup_fits = omega (arith, length_stored b.setup u.estimates_all u.margins_all, sound_short b.setup u);
      schedules_fit = s.schedules_high;
      part_fits = part_fits_of b.setup b.part u.operators_high s.part_sound;
      saved_fits = saved b.part.rows b.saved s.saved_sound;
      asks_fit = omega (arith, s.asks_all);
    }
  where
    saved : (rows : List Row) (o : Option Part) → SavedSound b.setup rows o → SavedFits o
    saved rows None h = tt
    saved rows (Some p) h = part_fits_of b.setup p s.setup_sound.operators_high h.0

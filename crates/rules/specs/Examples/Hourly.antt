-- Hourly exposures: what each hour of an operator comes to, and that its hours come to its exposure.
use Rattle.std.specs.Prelude.{ℕ, ◌*◌, ◌≡◌, refl, List, [], ◌∷◌, map, replicate, None}
use Rattle.units.specs.declared.MilliCents.{MilliCents}
use Rattle.units.specs.Units.{cents, cents_per_mwh, milli_cents}
use Rattle.rules.specs.Basics.{up_to}
use Rattle.rules.specs.Verdicts.{ReadOut, read_out}
use Rattle.rules.specs.Books.{Book, periods}
use Rattle.rules.specs.Opening.{setup_bytes, opened}
use Rattle.rules.specs.Readings.{exposure_reading, exposure_read_out, hourly_exposure_reading}
use Rattle.rules.specs.Calls.{step}
use Rattle.rules.specs.Lists.{after}
use Rattle.rules.specs.Replay.{call_of}
use Rattle.rules.specs.Streams.{account, injector, withdrawer, plant, setup_with, opens, close, trade, sells, buys}
use Rattle.rules.specs.Everything.{everything}

-- the book that records leave, from a set-up's bytes on
abbrev book_of : List ℕ → List (List ℕ) → Book
book_of setup records = after step (opened setup) (map call_of records)

-- the readings of an operator in all hours, in the paper's numbers
abbrev by_hour : Book → ℕ → List (ReadOut MilliCents)
by_hour b o = map (λ h. exposure_read_out (hourly_exposure_reading b o h)) (up_to (periods b.setup))

-- these amounts, read
abbrev amounts : List ℕ → List (ReadOut MilliCents)
amounts = map (λ n. read_out (milli_cents n))

-- ---- the whole case before the gate, by hour

abbrev whole_case : Book
whole_case = book_of opens (sells 0 18000 ∷ buys 0 18000 ∷ [])

-- operator 1 sold 18,000 in hour 1, at 5,000, and nothing in the other hours; operator 2 only bought
whole_case_seller : by_hour whole_case 1 ≡ amounts (90000000 ∷ replicate 23 0)
unfolding everything
whole_case_seller = refl

whole_case_buyer : by_hour whole_case 2 ≡ amounts (replicate 24 0)
unfolding everything
whole_case_buyer = refl

-- the sale counts so while it is pending too
whole_case_pending : by_hour (book_of opens (sells 0 18000 ∷ [])) 1 ≡ amounts (90000000 ∷ replicate 23 0)
unfolding everything
whole_case_pending = refl

-- ---- pending sales over three hours, at an estimate of 1,000 in hour 1, 2,000 in hour 2 and so on

-- the whole case's set-up with such estimates, and with a second account of operator 1
abbrev rising_prices : List ℕ
rising_prices =
    let u = setup_with 24 (injector ∷ withdrawer ∷ account 1 2 20000 20000 ∷ []) (plant ∷ []) in
    setup_bytes
    (record {
      hours = u.hours;
      zones = u.zones;
      estimates = map (λ h. cents_per_mwh (1000 * h)) (up_to 24);
      maintenance = u.maintenance;
      accounts = u.accounts;
      points = u.points;
    })
    (cents 100000 ∷ cents 0 ∷ [])

-- account 1 has pending sales of 6,000 in each of the hours 2 to 4, and of 1,000 more in hour 3
abbrev three_hours : Book
three_hours = book_of rising_prices (trade 1 1 2 0 1 2 4 6000 ∷ trade 1 1 2 1 1 3 3 1000 ∷ [])

pending_by_hour : by_hour three_hours 1 ≡ amounts (0 ∷ 12000000 ∷ 21000000 ∷ 24000000 ∷ replicate 20 0)
unfolding everything
pending_by_hour = refl

-- together they are the exposure
pending_together : exposure_read_out (exposure_reading three_hours 1) ≡ read_out (milli_cents 57000000)
unfolding everything
pending_together = refl

-- past the gate nothing is pending, and nothing exposed
pending_past_the_gate : by_hour (book_of rising_prices (trade 1 1 2 0 1 2 4 6000 ∷ close ∷ [])) 1 ≡ amounts (replicate 24 0)
unfolding everything
pending_past_the_gate = refl

-- ---- two accounts of one operator: account 1 sells to account 3, and what account 3 is long in hour 2 eases nothing

long_eases_nothing :
    by_hour (book_of rising_prices (trade 1 1 3 0 1 2 2 6000 ∷ trade 2 3 1 0 2 2 2 6000 ∷ [])) 1 ≡ amounts (0 ∷ 12000000 ∷ replicate 22 0)
unfolding everything
long_eases_nothing = refl

-- ---- out of range: the operator is 9, the hour is 5, and of both the hour's bit is given

no_such_operator : exposure_read_out (hourly_exposure_reading whole_case 3 24) ≡ ((6, 9, 0), None)
unfolding everything
no_such_operator = refl

no_such_hour : exposure_read_out (hourly_exposure_reading whole_case 1 25) ≡ ((6, 5, 0), None)
unfolding everything
no_such_hour = refl

both_out_of_range : exposure_read_out (hourly_exposure_reading whole_case 3 25) ≡ ((6, 5, 0), None)
unfolding everything
both_out_of_range = refl

both_zero : exposure_read_out (hourly_exposure_reading whole_case 0 0) ≡ ((6, 5, 0), None)
unfolding everything
both_zero = refl

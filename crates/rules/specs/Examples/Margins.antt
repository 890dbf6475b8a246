-- Margins that differ by hour: an account hour goes by the pair of its own hour, and a fault by the byte of its own margin.
use Rattle.std.specs.Prelude.{ℕ, ◌-◌, refl, List, [], ◌∷◌, ◌++◌}
use Rattle.units.specs.Units.{cents}
use Rattle.rules.specs.Books.{Account}
use Rattle.rules.specs.Opening.{setup_bytes}
use Rattle.rules.specs.Streams.{for_hours, account, injector, withdrawer, plant, setup_with, trade}
use Rattle.rules.specs.Cases.{Prints}
use Rattle.rules.specs.Everything.{everything}

-- the whole case's set-up with other accounts, and ample guarantees
abbrev opens_for : List (ℕ → Account) → List ℕ
opens_for accounts = setup_bytes (setup_with 24 accounts (plant ∷ [])) (cents 1000000000 ∷ cents 1000000000 ∷ [])

-- the plant is out in hours 5 to 8: nothing can be sold there
abbrev outage : ℕ → Account
outage hours =
    record { operator = 1; kind = 1; lower = for_hours 4 20000 ++ for_hours 4 0 ++ for_hours (hours - 8) 20000; upper = for_hours hours 0 }

-- a sale over the whole day breaks the margin of hour 5 first; over hours 9 to 24 it passes, and so it does up to hour 4
sale_over_an_outage :
    Prints (record {
      items =
          opens_for (outage ∷ withdrawer ∷ [])
          ∷ trade 1 1 2 0 1 1 24 20000
          ∷ trade 1 1 2 0 1 8 8 1
          ∷ trade 1 1 2 0 1 9 24 20000
          ∷ trade 1 1 2 1 1 1 4 20000
          ∷ [];
      printed = "0 0 0 0\n1 18 5 0\n2 18 8 0\n3 0 1 0\n4 0 2 0\n";
    })
unfolding everything
sale_over_an_outage = refl

-- its upper margin in hour 12 is one short of that in the hours before
abbrev short_at_twelve : ℕ → Account
short_at_twelve hours =
    record { operator = 2; kind = 2; lower = for_hours hours 0; upper = for_hours 11 20000 ++ for_hours 1 19999 ++ for_hours (hours - 12) 20000 }

-- a purchase of 20,000 whose last hour is 12 breaks the margin there, to register and to confirm; one kWh less passes
purchase_short_in_its_last_hour :
    Prints (record {
      items =
          opens_for (injector ∷ short_at_twelve ∷ [])
          ∷ trade 1 2 1 0 2 9 12 20000
          ∷ trade 1 1 2 0 1 9 12 20000
          ∷ trade 2 2 1 0 2 9 12 20000
          ∷ trade 1 2 1 0 2 9 12 19999
          ∷ [];
      printed = "0 0 0 0\n1 18 12 0\n2 0 1 0\n3 18 12 0\n4 0 2 0\n";
    })
unfolding everything
purchase_short_in_its_last_hour = refl

-- the entries of 194 bytes begin at 121 and 315: the lower margins of account 2 at 317, its upper ones at 413, the last of them at 505
abbrev last_upper_too_high : ℕ → Account
last_upper_too_high hours =
    record { operator = 2; kind = 2; lower = for_hours hours 0; upper = for_hours (hours - 1) 10000000 ++ for_hours 1 10000001 }

setup_last_upper_margin :
    Prints (record { items = opens_for (injector ∷ last_upper_too_high ∷ []) ∷ []; printed = "0 9 505 0\n" })
unfolding everything
setup_last_upper_margin = refl

-- of two margins at fault the one that stands first: an upper margin of account 1, at 219 and past it, before a lower one of account 2
abbrev upper_too_high_from_two : ℕ → Account
upper_too_high_from_two hours =
    record { operator = 1; kind = 1; lower = for_hours hours 20000; upper = for_hours 1 0 ++ for_hours (hours - 1) 10000001 }

setup_first_margin_at_fault :
    Prints (record { items = opens_for (upper_too_high_from_two ∷ account 2 2 10000001 20000 ∷ []) ∷ []; printed = "0 9 223 0\n" })
unfolding everything
setup_first_margin_at_fault = refl

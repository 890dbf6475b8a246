-- Strips: all rows or none, one verdict over all rows, numbers that follow one another.
use Rattle.std.specs.Prelude.{ℕ, refl, List, [], ◌∷◌, map, drop}
use Rattle.rules.specs.Basics.{up_to}
use Rattle.rules.specs.Streams.{opens, opens_with, open_batch, undo, trade, sells, buys, strip}
use Rattle.rules.specs.Cases.{Prints}
use Rattle.rules.specs.Everything.{everything}

-- account 1 sells to account 2 in one hour, by hour and quantity; the hour is the code
abbrev sale : ℕ → ℕ → List ℕ
sale hour quantity = trade 1 1 2 hour 1 hour hour quantity

-- three hours, each sold up to its margin, get the numbers 1 to 3; the next row gets 4
three_hours_lem :
    Prints (record {
      items = opens_with 1000000000 ∷ strip (sale 1 20000 ∷ sale 2 20000 ∷ sale 3 20000 ∷ []) ∷ sale 4 20000 ∷ [];
      printed = "0 0 0 0\n1 0 1 0\n2 0 4 0\n";
    })
unfolding everything
three_hours_lem = refl

-- the last row one over its margin: 18 with its hour, and nothing is registered
last_hour_over_its_margin :
    Prints (record {
      items = opens_with 1000000000 ∷ strip (sale 1 20000 ∷ sale 2 20000 ∷ sale 3 20001 ∷ []) ∷ sale 1 20000 ∷ [];
      printed = "0 0 0 0\n1 18 3 0\n2 0 1 0\n";
    })
unfolding everything
last_hour_over_its_margin = refl

-- two rows of 9,000 meet the guarantee exactly; with 9,001 each is within it and both are over
together_over_the_guarantee :
    Prints (record {
      items = opens ∷ strip (sells 0 9000 ∷ sells 1 9001 ∷ []) ∷ strip (sells 0 9000 ∷ sells 1 9000 ∷ []) ∷ [];
      printed = "0 0 0 0\n1 19 0 0\n2 0 1 0\n";
    })
unfolding everything
together_over_the_guarantee = refl

-- check by check, not row by row: a later row of kind 2 is 3, before the map of the row in front of it is 4
later_row_of_another_kind :
    Prints (record {
      items =
          opens
          ∷ strip (sells 0 1 ∷ buys 0 1 ∷ [])
          ∷ strip ((127 ∷ drop 1 (sells 0 1)) ∷ buys 0 1 ∷ [])
          ∷ strip ((127 ∷ drop 1 (sells 0 1)) ∷ [])
          ∷ [];
      printed = "0 0 0 0\n1 3 0 0\n2 3 0 0\n3 4 1 0\n";
    })
unfolding everything
later_row_of_another_kind = refl

-- of two rows with 6 the first one's bit: no quantity in row 1, another proposer in row 2. Another proposer is bit 1, before its own faults
first_faulty_row :
    Prints (record {
      items =
          opens
          ∷ strip (sells 0 0 ∷ trade 1 2 1 0 1 1 1 1 ∷ [])
          ∷ strip (sells 0 1 ∷ trade 1 2 1 0 1 1 1 0 ∷ [])
          ∷ [];
      printed = "0 0 0 0\n1 6 7 0\n2 6 1 0\n";
    })
unfolding everything
first_faulty_row = refl

-- 24 rows pass, 25 are 21, and so is none; a record without its count byte is 5
counts :
    Prints (record {
      items =
          opens_with 1000000000
          ∷ strip (map (λ code. sells code 1) (up_to 25))
          ∷ strip (map (λ code. sells code 1) (up_to 24))
          ∷ strip []
          ∷ (1 ∷ 0 ∷ 11 ∷ [])
          ∷ sells 25 1
          ∷ [];
      printed = "0 0 0 0\n1 21 0 0\n2 0 1 0\n3 21 0 0\n4 5 0 0\n5 0 25 0\n";
    })
unfolding everything
counts = refl

-- 22 is for the strip's own rows, 14 for those that stood, and 14 comes first
twins_within_and_without :
    Prints (record {
      items = opens ∷ strip (sells 7 1 ∷ sells 7 2 ∷ []) ∷ sells 7 1 ∷ strip (sells 7 1 ∷ sells 7 2 ∷ []) ∷ [];
      printed = "0 0 0 0\n1 22 0 0\n2 0 1 0\n3 14 0 0\n";
    })
unfolding everything
twins_within_and_without = refl

-- a row of a strip is confirmed by itself; undo counts the strip's rows
in_a_batch :
    Prints (record {
      items = opens ∷ open_batch ∷ strip (sells 0 9000 ∷ sells 1 9000 ∷ []) ∷ buys 1 9000 ∷ undo ∷ sells 0 18000 ∷ [];
      printed = "0 0 0 0\n1 0 0 0\n2 0 1 0\n3 0 2 0\n4 0 2 0\n5 0 1 0\n";
    })
unfolding everything
in_a_batch = refl

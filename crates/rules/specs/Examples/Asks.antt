-- Asks: an ask answers as its register would, stands until another call is accepted, and its commit gives what it gave.
use Rattle.std.specs.Prelude.{ℕ, refl, List, [], ◌∷◌}
use Rattle.rules.specs.Streams.{opens, opens_with, open_batch, undo, close, trade, sells, buys}
use Rattle.rules.specs.Cases.{Prints}
use Rattle.rules.specs.Everything.{everything}

-- account 1 asks whether it may sell to account 2 in hour 1, by code and quantity
abbrev asks : ℕ → ℕ → List ℕ
asks code quantity = trade 12 1 2 code 1 1 1 quantity

-- account 1 commits that
abbrev commits : ℕ → ℕ → List ℕ
commits code quantity = trade 13 1 2 code 1 1 1 quantity

-- account 2 buys 5 of account 1 in hour 1: as a register, as an ask, as a commit
abbrev purchase : ℕ → List ℕ
purchase kind = trade kind 2 1 7 2 1 1 5

-- the commit gets the number that its ask gave, its row is confirmed, and the ask is used up
asked_and_committed :
    Prints (record {
      items = opens ∷ sells 0 9000 ∷ asks 1 9000 ∷ commits 1 9000 ∷ buys 1 9000 ∷ commits 1 9000 ∷ [];
      printed = "0 0 0 0\n1 0 1 0\n2 0 2 0\n3 0 2 0\n4 0 2 0\n5 23 0 0\n";
    })
unfolding everything
asked_and_committed = refl

-- another account's register takes the number that the ask gave, and clears it: 23. Asked again, it gives the next number
register_between :
    Prints (record {
      items = opens ∷ asks 0 18000 ∷ purchase 1 ∷ commits 0 18000 ∷ asks 0 18000 ∷ commits 0 18000 ∷ [];
      printed = "0 0 0 0\n1 0 1 0\n2 0 1 0\n3 23 0 0\n4 0 2 0\n5 0 2 0\n";
    })
unfolding everything
register_between = refl

-- a second ask replaces the first: the first's commit is 23, which clears nothing, and the second's passes
second_ask :
    Prints (record {
      items = opens ∷ asks 0 18000 ∷ asks 0 17999 ∷ commits 0 18000 ∷ commits 0 17999 ∷ [];
      printed = "0 0 0 0\n1 0 1 0\n2 0 1 0\n3 23 0 0\n4 0 1 0\n";
    })
unfolding everything
second_ask = refl

-- the asks of two accounts stand, with one number; the commit of the one clears the other's: 23
two_accounts :
    Prints (record {
      items = opens ∷ asks 0 18000 ∷ purchase 12 ∷ commits 0 18000 ∷ purchase 13 ∷ [];
      printed = "0 0 0 0\n1 0 1 0\n2 0 1 0\n3 0 1 0\n4 23 0 0\n";
    })
unfolding everything
two_accounts = refl

-- an ask for hours 2 and 3 is one over the margin: 18 with the first of them. The ask before it stands, and its commit passes
refused_ask :
    Prints (record {
      items = opens_with 1000000000 ∷ asks 0 20000 ∷ trade 12 1 2 0 1 2 3 20001 ∷ commits 0 20000 ∷ [];
      printed = "0 0 0 0\n1 0 1 0\n2 18 2 0\n3 0 1 0\n";
    })
unfolding everything
refused_ask = refl

-- a batch that was opened in between clears the ask: 23. Asked in the batch it passes, and undo counts its row
batch_between :
    Prints (record {
      items = opens ∷ asks 0 18000 ∷ open_batch ∷ commits 0 18000 ∷ asks 0 18000 ∷ commits 0 18000 ∷ undo ∷ [];
      printed = "0 0 0 0\n1 0 1 0\n2 0 0 0\n3 23 0 0\n4 0 1 0\n5 0 1 0\n6 0 1 0\n";
    })
unfolding everything
batch_between = refl

-- of a row that stands an ask is 14 and a commit 23, which comes before 14; past the gate both are 11
without_an_ask :
    Prints (record {
      items = opens ∷ sells 7 1 ∷ asks 7 1 ∷ commits 7 1 ∷ close ∷ asks 7 1 ∷ commits 7 1 ∷ [];
      printed = "0 0 0 0\n1 0 1 0\n2 14 0 0\n3 23 0 0\n4 0 0 0\n5 11 0 0\n6 11 0 0\n";
    })
unfolding everything
without_an_ask = refl

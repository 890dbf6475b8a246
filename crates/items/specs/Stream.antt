-- The stream read item by item (document 01, "Replay"). What an offset comes to in the list of all items is said by the laws of
-- proofs/StreamLaws.antt.
use Rattle.std.specs.Prelude.{ℕ, ◌+◌, List, length, get_or, eqb, leb, if◌then◌else◌}
use Rattle.wire.specs.Numbers.{number_at}
use Rattle.items.specs.declared.Found.{Found}
use Rattle.items.specs.declared.Found.TheVariants.{Whole, Cut, End}

-- an item: a 2-byte length, then that many bytes; cut short in its length or its bytes; nothing at the end
unfoldable pub found_at : List ℕ → ℕ → Found
found_at s at =
    if leb (length s) at then End
    else (if leb (at + 2 + number_at s at 2) (length s) then Whole (at + 2) (at + 2 + number_at s at 2)
    else Cut)

-- where the next item begins: behind a whole item, else at the same offset
unfoldable pub past_found : Found → ℕ → ℕ
past_found (Whole from end) at = end
past_found Cut at = at
past_found End at = at

-- an item with third byte 10 is 3 record bytes, then prices
unfoldable pub record_length : List ℕ → ℕ
record_length s = if eqb (get_or s 2 0) 10 then 3 else length s

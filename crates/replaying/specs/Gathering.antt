-- Lines that are gathered in one buffer: what each item leaves in the book and in the buffer. The lines in the buffer and the text that
-- is still to come make the whole.
use Rattle.std.specs.Prelude.{ℕ, zero, suc, ◌+◌, ◌-◌, ◌≤◌, ◌≡◌, List, [], ◌++◌, Bool, true, ◌&&◌, length, take, leb, if◌then◌else◌, is_some, Option, None, Some}
use Rattle.std.specs.Option.{ForSome}
use Rattle.wire.specs.Regions.{splice}
use Rattle.rules.specs.Books.{Book}
use Rattle.rules.specs.Replay.{text}
use Rattle.image.specs.Valid.{is_book, book_in}
use Rattle.replaying.specs.declared.Gathered.{Gathered}
use Rattle.replaying.specs.Steps.{Step, beginning, step_at, lines_from}
use Rattle.replaying.specs.Lent.{step_room, stepped, book_on, printed}

-- ---- what is gathered

-- how far a replay has come, the bytes of the book, and the buffer with the lines
pub record Progress : Type 0 where
  pub gathered : Gathered
  pub book : List ℕ
  pub out : List ℕ

abbrev pub so_far : Gathered → List ℕ → List ℕ → Progress
so_far g book out = record { gathered = g; book = book; out = out }

-- a step's lines stand behind those up to `end`, and its book is the one that the replay goes on with; the next item has the number n
abbrev pub on_step : Step → ℕ → ℕ → List ℕ → List ℕ → Progress
on_step x n end book out =
    let w = stepped x in
    so_far
    (record { next = w.next; number = n; end = end + w.end })
    (book_on x.onward book)
    (splice out end (printed x))

-- the beginning is gathered at the front
unfoldable pub first_gathered : List ℕ → List ℕ → List ℕ → Progress
first_gathered stream book out = on_step (beginning stream) 1 0 book out

-- the item that begins at an offset is gathered; without an offset none is
abbrev pub gathered_at : List ℕ → Progress → Option ℕ → Progress
gathered_at stream p None = p
gathered_at stream p (Some at) =
    let g = p.gathered in
    on_step (step_at (book_in p.book) g.number stream at) (g.number + 1) g.end p.book p.out

-- the next item is gathered
unfoldable pub item_gathered : List ℕ → Progress → Progress
item_gathered stream p = gathered_at stream p p.gathered.next

-- the replay goes on, and the buffer has room for another step
unfoldable pub takes_another : Progress → Bool
takes_another p = is_some p.gathered.next && leb (p.gathered.end + step_room) (length p.out)

-- at most so many items are gathered, while the replay goes on and the buffer has room
unfoldable pub items_gathered : ℕ → List ℕ → Progress → Progress
items_gathered zero stream p = p
items_gathered (suc n) stream p = if takes_another p then items_gathered n stream (item_gathered stream p) else p

-- items are gathered until the replay ends or the buffer has no room for another step; since an item has 2 bytes or more, so many steps are
-- enough
unfoldable pub all_gathered : List ℕ → Progress → Progress
all_gathered stream p = items_gathered (length stream + 2 - p.gathered.number) stream p

-- ---- the whole text

-- the text that the items from an offset on print on a book, of which the first has the number n; none without an offset
abbrev pub text_from : Book → ℕ → List ℕ → Option ℕ → List ℕ
text_from b n stream None = []
text_from b n stream (Some at) = text (lines_from b n stream at)

-- the text that the items from the next on print on the book; none where the replay has ended
abbrev pub to_come : List ℕ → Progress → List ℕ
to_come stream p = let g = p.gathered in text_from (book_in p.book) g.number stream g.next

-- the lines in the buffer
abbrev pub lines_in : Progress → List ℕ
lines_in p = take p.gathered.end p.out

-- the lines in the buffer, and the text to come
abbrev pub whole_text : List ℕ → Progress → List ℕ
whole_text stream p = lines_in p ++ to_come stream p

-- the lines end within the buffer; where the replay goes on, the bytes are a book and the next item begins within the stream; an item takes
-- 2 bytes or more, so that its number stays behind its offset
pub record Underway (stream : List ℕ) (p : Progress) : Type 0 where
  pub room : p.gathered.end ≤ length p.out
  pub counted : p.gathered.number ≤ length stream + 2
  pub onward : ForSome p.gathered.next (λ next. (is_book p.book ≡ true) × (next ≤ length stream) × (p.gathered.number ≤ next + 1))

-- from one to the other the text stays whole, and the later one is underway
pub record Follows (stream : List ℕ) (before after : Progress) : Type 0 where
  pub whole : whole_text stream after ≡ whole_text stream before
  pub underway : Underway stream after

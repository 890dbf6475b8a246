-- What opening and the readings answer, on any bytes (document 01, "Opening", "Registration"; document 02, note 5).
use Rattle.units.specs.declared.MilliCents.{MilliCents}
use Rattle.rules.specs.declared.Position.{Position}
use Rattle.rules.specs.Verdicts.{Reading}
use Rattle.std.specs.Prelude.{ℕ, List, if◌then◌else◌, Err}
use Rattle.rules.specs.declared.Refusal.TheVariants.{NotABook}
use Rattle.rules.specs.Opening.{open_refusal, opened}
use Rattle.rules.specs.Requests.{unless_refused}
use Rattle.rules.specs.Readings.{net_reading, exposure_reading, hourly_exposure_reading}
use Rattle.image.specs.Valid.{is_book, book_bytes, book_in}

-- opening fills the whole buffer with the image of the fresh book; a refusal changes no byte
unfoldable pub open_bytes : List ℕ → List ℕ → List ℕ
open_bytes setup book = unless_refused (open_refusal setup book) book (book_bytes (opened setup))

-- a net position, by account and hour: 1 where the bytes are no book
unfoldable pub net_answer : List ℕ → ℕ → ℕ → Reading Position
net_answer s a h = if is_book s then net_reading (book_in s) a h else Err NotABook

-- an exposure, by operator
unfoldable pub exposure_answer : List ℕ → ℕ → Reading MilliCents
exposure_answer s o = if is_book s then exposure_reading (book_in s) o else Err NotABook

-- an hourly exposure, by operator and hour
unfoldable pub hourly_exposure_answer : List ℕ → ℕ → ℕ → Reading MilliCents
hourly_exposure_answer s o h = if is_book s then hourly_exposure_reading (book_in s) o h else Err NotABook

-- A request in 34 bytes (document 01, "Requests"): all thirteen fields in bit order, each in its full width, with no map. A field that the
-- kind has not is 0 when it is read, and is not looked at when it is written.
use Rattle.std.specs.Prelude.{ℕ, List, length, eqb, if◌then◌else◌}
use Rattle.wire.specs.Numbers.{number_at}
use Rattle.wire.specs.Parts.{pack}
use Rattle.units.specs.Units.{kwh, cents, cents_per_mwh}
use Rattle.rules.specs.declared.Request.{Request}
use Rattle.rules.specs.declared.Refusal.TheVariants.{WrongLength}
use Rattle.rules.specs.Verdicts.{refused, Verdict}
use Rattle.rules.specs.Requests.{widths, fields_of, write_outcome, written}

-- the sum of the widths
abbrev pub fields_size : ℕ
fields_size = 34

-- the bytes of a request
unfoldable pub request_bytes : Request → List ℕ
request_bytes q = pack widths (fields_of q)

-- the request that 34 bytes say
unfoldable pub request_in : List ℕ → Request
request_in s =
    record {
      kind = number_at s 0 1;
      account = number_at s 1 1;
      other = number_at s 2 1;
      code = number_at s 3 8;
      side = number_at s 11 1;
      first = number_at s 12 1;
      last = number_at s 13 1;
      quantity = kwh (number_at s 14 4);
      number = number_at s 18 2;
      operator = number_at s 20 1;
      guarantee = cents (number_at s 21 8);
      point = number_at s 29 1;
      price = cents_per_mwh (number_at s 30 4);
    }

-- the record writer on such bytes: 5 where they are not 34, else 3 and 10
unfoldable pub fields_outcome : List ℕ → List ℕ → Verdict
fields_outcome s buffer = if eqb (length s) fields_size then write_outcome (request_in s) buffer else refused WrongLength

-- a refusal changes no byte of the buffer
unfoldable pub fields_written : List ℕ → List ℕ → List ℕ
fields_written s buffer = if eqb (length s) fields_size then written (request_in s) buffer else buffer

-- A request in 34 bytes, there and back.
use mathlib.Core.Path.{◌≡◌}
use Rattle.wire.specs.Parts.{Small}
use Rattle.wire.proofs.PackLaws.{number_in_pack}
use Rattle.rules.specs.declared.Request.{Request}
use Rattle.rules.specs.Requests.{widths, fields_of}
use Rattle.abi.specs.Fields.{request_bytes, request_in}

-- what was put is read back
pub request_back : (q : Request) → Small widths (fields_of q) → request_in (request_bytes q) ≡ q
unfolding request_in request_bytes
request_back q s =
    rw (
      number_in_pack widths (fields_of q) 0 s,
      number_in_pack widths (fields_of q) 1 s,
      number_in_pack widths (fields_of q) 2 s,
      number_in_pack widths (fields_of q) 3 s,
      number_in_pack widths (fields_of q) 4 s,
      number_in_pack widths (fields_of q) 5 s,
      number_in_pack widths (fields_of q) 6 s,
      number_in_pack widths (fields_of q) 7 s,
      number_in_pack widths (fields_of q) 8 s,
      number_in_pack widths (fields_of q) 9 s,
      number_in_pack widths (fields_of q) 10 s,
      number_in_pack widths (fields_of q) 11 s,
      number_in_pack widths (fields_of q) 12 s,
    )

-- Each field is the number at its place.
use Rattle.abi.specs.Fields.{request_in}
use Rattle.abi.proofs.fields.request_in.Goals as goal

pub returns : goal.returns
unfolding request_in
returns c =
    rw (c.get.ensures, c.get-2.ensures, c.get-3.ensures, c.get-4.ensures, c.get-5.ensures, c.get-6.ensures, c.get-7.ensures, c.get-8.ensures, c.get-9.ensures, c.get-10.ensures, c.get-11.ensures, c.get-12.ensures, c.get-13.ensures)

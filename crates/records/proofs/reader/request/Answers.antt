-- Each field fits its width, so that no cast loses bits.
use Prim.Native.Nat.{ℕ, ◌^◌, ◌<◌}
use mathlib.Core.Path.{◌≡◌, refl}
use mathlib.Core.List.{map}
use lib.ListN.{get_or}
use Rattle.wire.proofs.NumberLaws.{bytes_known}
use Rattle.rules.specs.Basics.{counting}
use Rattle.rules.specs.Requests.{width_of, bits, field_in, request_of}
use Rattle.rules.proofs.Records.Fields.{field_in_fits}
use Rattle.std.proofs.Common.{List, Fits, w8}
use Rattle.records.proofs.reader.request.Goals as goal

-- the field of a bit fits its width
fits : (s fields : List ℕ) (k : ℕ) → ((k : ℕ) → Fits w8 (get_or s k 0)) → fields ≡ map (field_in s) bits
    → get_or (map (field_in s) bits) k 0 ≡ field_in s k → get_or fields k 0 < 256 ^ width_of k
fits s fields k b same e = rw (same, e) (field_in_fits (bytes_known s b) k)

pub overflow_cast-result : goal.overflow_cast-result
unfolding bits counting
overflow_cast-result c = record { fits = fits c.args.bytes.now c.fields-f.result 0 c.type_inv.bytes c.fields-f.ensures refl }

pub overflow_cast-result-2 : goal.overflow_cast-result-2
unfolding bits counting
overflow_cast-result-2 c = record { fits = fits c.args.bytes.now c.fields-f.result 1 c.type_inv.bytes c.fields-f.ensures refl }

pub overflow_cast-result-3 : goal.overflow_cast-result-3
unfolding bits counting
overflow_cast-result-3 c = record { fits = fits c.args.bytes.now c.fields-f.result 2 c.type_inv.bytes c.fields-f.ensures refl }

pub overflow_cast-result-4 : goal.overflow_cast-result-4
unfolding bits counting
overflow_cast-result-4 c = record { fits = fits c.args.bytes.now c.fields-f.result 4 c.type_inv.bytes c.fields-f.ensures refl }

pub overflow_cast-result-5 : goal.overflow_cast-result-5
unfolding bits counting
overflow_cast-result-5 c = record { fits = fits c.args.bytes.now c.fields-f.result 5 c.type_inv.bytes c.fields-f.ensures refl }

pub overflow_cast-result-6 : goal.overflow_cast-result-6
unfolding bits counting
overflow_cast-result-6 c = record { fits = fits c.args.bytes.now c.fields-f.result 6 c.type_inv.bytes c.fields-f.ensures refl }

pub overflow_cast-result-7 : goal.overflow_cast-result-7
unfolding bits counting
overflow_cast-result-7 c = record { fits = fits c.args.bytes.now c.fields-f.result 7 c.type_inv.bytes c.fields-f.ensures refl }

pub overflow_cast-result-8 : goal.overflow_cast-result-8
unfolding bits counting
overflow_cast-result-8 c = record { fits = fits c.args.bytes.now c.fields-f.result 8 c.type_inv.bytes c.fields-f.ensures refl }

pub overflow_cast-result-9 : goal.overflow_cast-result-9
unfolding bits counting
overflow_cast-result-9 c = record { fits = fits c.args.bytes.now c.fields-f.result 9 c.type_inv.bytes c.fields-f.ensures refl }

pub overflow_cast-result-10 : goal.overflow_cast-result-10
unfolding bits counting
overflow_cast-result-10 c = record { fits = fits c.args.bytes.now c.fields-f.result 11 c.type_inv.bytes c.fields-f.ensures refl }

pub overflow_cast-result-11 : goal.overflow_cast-result-11
unfolding bits counting
overflow_cast-result-11 c = record { fits = fits c.args.bytes.now c.fields-f.result 12 c.type_inv.bytes c.fields-f.ensures refl }

pub returns : goal.returns
unfolding bits counting request_of
returns c = rw c.fields-f.ensures

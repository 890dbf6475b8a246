-- The number of the part that is cut out.
use Rattle.std.proofs.Common.{take, drop, ap, ◌∙◌, arith}
use Rattle.wire.specs.Numbers.{number, number_at}
use Rattle.wire.proofs.numbers.get.Goals as goal

pub returns : goal.returns
unfolding number_at
returns g c = c.from_bytes.ensures ∙ ap (λ n. number (take n (drop c.args.at c.args.s.now))) (omega (arith, c.WIDTH.ensures))

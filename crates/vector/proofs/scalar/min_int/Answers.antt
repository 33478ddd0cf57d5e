-- `min_int`: the library's `min` takes the second where it is below the first, so both agree.
use Rattle.std.proofs.Common.{arith}
use Rattle.std.proofs.lemmas.Grind.{common_steps}
use Rattle.vector.specs.Scalar.{min_int_of}
use Rattle.vector.proofs.scalar.min_int.Goals as goal

pub returns : goal.returns
unfolding min_int_of
returns c = grind (arith, common_steps)

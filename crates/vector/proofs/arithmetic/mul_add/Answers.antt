-- `mul_add`: the code is the definition's own expression.
use mathlib.Core.Path.{refl}
use Rattle.vector.specs.Arithmetic.{mul_add_of}
use Rattle.vector.proofs.arithmetic.mul_add.Goals as goal

pub returns : goal.returns
unfolding mul_add_of
returns c = refl

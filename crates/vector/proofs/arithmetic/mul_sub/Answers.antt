-- `mul_sub`: the code is the definition's own expression.
use mathlib.Core.Path.{refl}
use Rattle.vector.specs.Arithmetic.{mul_sub_of}
use Rattle.vector.proofs.arithmetic.mul_sub.Goals as goal

pub returns : goal.returns
unfolding mul_sub_of
returns c = refl

-- `mul_sv`: the code is the definition's own expression.
use mathlib.Core.Path.{refl}
use Rattle.vector.specs.Arithmetic.{mul_sv_of}
use Rattle.vector.proofs.arithmetic.mul_sv.Goals as goal

pub returns : goal.returns
unfolding mul_sv_of
returns c = refl

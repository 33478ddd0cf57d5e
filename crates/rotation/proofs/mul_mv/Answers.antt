-- `mul_mv`: the code is the definition's own expression.
use mathlib.Core.Path.{refl}
use Rattle.rotation.specs.Rotation.{mul_mv_of}
use Rattle.rotation.proofs.mul_mv.Goals as goal

pub returns : goal.returns
unfolding mul_mv_of
returns c = refl

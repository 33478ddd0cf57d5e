-- `lerp`: the code is the definition's own expression.
use mathlib.Core.Path.{refl}
use Rattle.vector.specs.Arithmetic.{lerp_of}
use Rattle.vector.proofs.arithmetic.lerp.Goals as goal

pub returns : goal.returns
unfolding lerp_of
returns c = refl

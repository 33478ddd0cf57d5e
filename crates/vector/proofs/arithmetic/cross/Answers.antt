-- `cross`: the code is the definition's own expression.
use mathlib.Core.Path.{refl}
use Rattle.vector.specs.Arithmetic.{cross_of}
use Rattle.vector.proofs.arithmetic.cross.Goals as goal

pub returns : goal.returns
unfolding cross_of
returns c = refl

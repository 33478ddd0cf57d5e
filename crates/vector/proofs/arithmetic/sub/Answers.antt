-- `sub`: the code is the definition's own expression.
use mathlib.Core.Path.{refl}
use Rattle.vector.specs.Arithmetic.{sub_of}
use Rattle.vector.proofs.arithmetic.sub.Goals as goal

pub returns : goal.returns
unfolding sub_of
returns c = refl

-- `dot`: the code is the definition's own expression.
use mathlib.Core.Path.{refl}
use Rattle.vector.specs.Arithmetic.{dot_of}
use Rattle.vector.proofs.arithmetic.dot.Goals as goal

pub returns : goal.returns
unfolding dot_of
returns c = refl

-- `add`: the code is the definition's own expression.
use mathlib.Core.Path.{refl}
use Rattle.vector.specs.Arithmetic.{add_of}
use Rattle.vector.proofs.arithmetic.add.Goals as goal

pub returns : goal.returns
unfolding add_of
returns c = refl

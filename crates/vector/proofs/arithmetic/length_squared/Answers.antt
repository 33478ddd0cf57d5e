-- `length_squared`: the code is the definition's own expression.
use mathlib.Core.Path.{refl}
use Rattle.vector.specs.Arithmetic.{length_squared_of}
use Rattle.vector.proofs.arithmetic.length_squared.Goals as goal

pub returns : goal.returns
unfolding length_squared_of
returns c = refl

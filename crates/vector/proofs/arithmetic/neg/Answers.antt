-- `neg`: the code is the definition's own expression.
use mathlib.Core.Path.{refl}
use Rattle.vector.specs.Arithmetic.{neg_of}
use Rattle.vector.proofs.arithmetic.neg.Goals as goal

pub returns : goal.returns
unfolding neg_of
returns c = refl

-- `transpose`: the code is the definition's own expression.
use mathlib.Core.Path.{refl}
use Rattle.rotation.specs.Rotation.{transpose_of}
use Rattle.rotation.proofs.transpose.Goals as goal

pub returns : goal.returns
unfolding transpose_of
returns c = refl

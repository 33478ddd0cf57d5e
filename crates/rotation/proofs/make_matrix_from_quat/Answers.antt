-- `make_matrix_from_quat`: the code is the definition's own expression.
use mathlib.Core.Path.{refl}
use Rattle.rotation.specs.Rotation.{matrix_of}
use Rattle.rotation.proofs.make_matrix_from_quat.Goals as goal

pub returns : goal.returns
unfolding matrix_of
returns c = refl

-- `value`: the definition, sum by sum.
use mathlib.Core.Path.{refl}
use Rattle.axis_faces.specs.Support.{support_value_of}
use Rattle.axis_faces.proofs.support.value.Goals as goal

pub returns : goal.returns
unfolding support_value_of
returns c = refl

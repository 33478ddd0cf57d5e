-- `box_of`: the numbers read are those of the definition.
use mathlib.Core.Path.{refl}
use Rattle.hull.specs.Numbers.{box_of}
use Rattle.hull.proofs.box_of.Goals as goal

pub returns : goal.returns
unfolding box_of
returns c = refl

-- `axis_of`: the code is the definition's own record.
use Rattle.axis.specs.Search.{axis_of}
use mathlib.Core.Path.{refl}
use Rattle.axis.proofs.axis_of.Goals as goal

pub returns : goal.returns
unfolding axis_of
returns c = refl

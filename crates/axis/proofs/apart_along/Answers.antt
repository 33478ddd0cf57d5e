-- `apart_along`: the code is the definition's own record.
use Rattle.axis.specs.Search.{apart_of}
use mathlib.Core.Path.{refl}
use Rattle.axis.proofs.apart_along.Goals as goal

pub returns : goal.returns
unfolding apart_of
returns c = refl

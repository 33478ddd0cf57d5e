-- The comparison as it is made.
use mathlib.Core.Path.{refl}
use Rattle.axis_row.specs.inner.Marks.{at_least_eps}
use lib.Ieee.{le}
use Rattle.axis_row.proofs.fails.Goals as goal

pub returns : goal.returns
unfolding le at_least_eps
returns c = refl

-- `dot_right`: the code is the definition's own expression.
use Rattle.axis_edges.specs.Edges.{dot_right}
use mathlib.Core.Path.{refl}
use Rattle.axis_edges.proofs.dot_right.Goals as goal

pub returns : goal.returns
unfolding dot_right
returns c = refl

-- `point_of`: the code is the definition's own expression.
use mathlib.Core.Path.{refl}
use Rattle.reduce_points.specs.Points.{point_of}
use Rattle.reduce_points.proofs.point_of.Goals as goal

pub returns : goal.returns
unfolding point_of
returns c = refl

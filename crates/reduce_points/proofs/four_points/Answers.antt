-- `four_points`: the four points.
use mathlib.Core.Path.{refl}
use Rattle.reduce_points.specs.Points.{normal_of, contact_of}
use Rattle.reduce_points.proofs.four_points.Goals as goal

pub returns : goal.returns
unfolding normal_of contact_of
returns c = refl

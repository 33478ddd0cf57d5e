-- `one_point`: the point, and unused ones behind it.
use Rattle.reduce_points.specs.Points.{normal_of, contact_of}
use Rattle.reduce_points.proofs.one_point.Goals as goal

pub returns : goal.returns
unfolding normal_of contact_of
returns c = simp c.unused_point-unused.ensures

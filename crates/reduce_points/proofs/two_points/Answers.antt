-- `two_points`: the two points, and unused ones behind them.
use Rattle.reduce_points.specs.Points.{normal_of, contact_of}
use Rattle.reduce_points.proofs.two_points.Goals as goal

pub returns : goal.returns
unfolding normal_of contact_of
returns c = simp c.unused_point-unused.ensures

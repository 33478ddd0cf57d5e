-- `three_points`: the three points, and an unused one behind them.
use Rattle.reduce_points.specs.Points.{normal_of, contact_of}
use Rattle.reduce_points.proofs.three_points.Goals as goal

pub returns : goal.returns
unfolding normal_of contact_of
returns c = simp c.unused_point-unused.ensures

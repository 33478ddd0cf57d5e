-- `in_box`: each call answers its own definition, and together they are this one.
use Rattle.hull_limits.specs.Measures.{in_box}
use Rattle.hull_limits.proofs.Joined.{and3}
use Rattle.hull_limits.proofs.in_box.Goals as goal

pub returns : goal.returns
unfolding in_box
returns c = and3 c.is_inside.ensures c.is_inside-2.ensures c.is_inside-3.ensures

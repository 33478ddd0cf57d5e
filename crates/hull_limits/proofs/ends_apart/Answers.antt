-- `ends_apart`: each call answers its own definition, and together they are this one.
use Rattle.hull_limits.specs.Measures.{ends_apart}
use Rattle.hull_limits.proofs.Joined.{or3}
use Rattle.hull_limits.proofs.ends_apart.Goals as goal

pub returns : goal.returns
unfolding ends_apart
returns c = or3 c.are_apart.ensures c.are_apart-2.ensures c.are_apart-3.ensures

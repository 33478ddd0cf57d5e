-- `padding_small`: each call answers its own definition, and together they are this one.
use Rattle.hull.specs.inner.Passes.{padding_small}
use Rattle.hull_limits.proofs.Joined.{and3}
use Rattle.hull.proofs.rule8.padding_small.Goals as goal

pub returns : goal.returns
unfolding padding_small
returns c =
    rw (← c.padded-p.ensures, ← c.coordinate_limit-limit.ensures)
    (and3 c.numbers_small.ensures c.numbers_small-2.ensures c.numbers_small-3.ensures)

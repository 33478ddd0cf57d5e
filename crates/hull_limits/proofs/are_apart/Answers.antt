-- `are_apart`: the code's `|` is the definition's.
use Rattle.hull_links.proofs.Tests.{or_is}
use Rattle.hull_limits.specs.Measures.{apart}
use Rattle.hull_limits.proofs.are_apart.Goals as goal

pub returns : goal.returns
unfolding apart
returns c = or_is _ _

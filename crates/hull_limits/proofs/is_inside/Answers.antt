-- `is_inside`: the code's `&` is the definition's.
use Rattle.hull_links.proofs.Tests.{and_is}
use Rattle.hull_limits.specs.Measures.{inside}
use Rattle.hull_limits.proofs.is_inside.Goals as goal

pub returns : goal.returns
unfolding inside
returns c = and_is _ _

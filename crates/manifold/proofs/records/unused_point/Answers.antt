-- `unused_point`: the code is the definition's own expression.
use mathlib.Core.Path.{refl}
use Rattle.manifold.proofs.records.unused_point.Goals as goal

pub returns : goal.returns
returns c = refl

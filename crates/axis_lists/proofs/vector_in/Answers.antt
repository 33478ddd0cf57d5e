-- `vector_in`: the code is the definition's own expression.
use Rattle.axis_lists.specs.inner.Lists.{vector_in}
use mathlib.Core.Path.{refl}
use Rattle.axis_lists.proofs.vector_in.Goals as goal

pub returns : goal.returns
unfolding vector_in
returns c = refl

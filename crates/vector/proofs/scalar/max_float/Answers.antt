-- `max_float`: the test picks the definition's case.
use Rattle.vector.specs.Scalar.{max_of}
use Rattle.vector.proofs.scalar.max_float.Goals as goal

pub returns-then-a-b : goal.returns-then-a-b
unfolding max_of
returns-then-a-b c = simp c.if-a-b.true

pub returns : goal.returns
unfolding max_of
returns c = simp c.if-a-b.false

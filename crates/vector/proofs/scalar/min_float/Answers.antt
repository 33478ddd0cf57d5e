-- `min_float`: the test picks the definition's case.
use Rattle.vector.specs.Scalar.{min_of}
use Rattle.vector.proofs.scalar.min_float.Goals as goal

pub returns-then-a-b : goal.returns-then-a-b
unfolding min_of
returns-then-a-b c = simp c.if-a-b.true

pub returns : goal.returns
unfolding min_of
returns c = simp c.if-a-b.false

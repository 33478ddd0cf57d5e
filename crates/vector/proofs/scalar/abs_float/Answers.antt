-- `abs_float`: the test picks the definition's case.
use Rattle.vector.specs.Scalar.{abs_of}
use Rattle.vector.proofs.scalar.abs_float.Goals as goal

pub returns-then-a : goal.returns-then-a
unfolding abs_of
returns-then-a c = simp c.if-a.true

pub returns : goal.returns
unfolding abs_of
returns c = simp c.if-a.false

-- `farther`: the test picks the definition's case.
use Rattle.vector.specs.Shape.{farther_of}
use Rattle.vector.proofs.shape.farther.Goals as goal

pub returns-then-value-best : goal.returns-then-value-best
unfolding farther_of
returns-then-value-best c = simp c.if-value-best.true

pub returns : goal.returns
unfolding farther_of
returns c = simp c.if-value-best.false

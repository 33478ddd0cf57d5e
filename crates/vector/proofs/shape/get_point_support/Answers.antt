-- `get_point_support`: the tests pick the definition's case, and each call answers its own definition.
use Rattle.vector.specs.Shape.{point_support_of}
use Rattle.vector.proofs.shape.get_point_support.Goals as goal

pub returns-then-second-first : goal.returns-then-second-first
unfolding point_support_of
returns-then-second-first c = simp (simp (c.dot-second.ensures, c.dot-first.ensures) at c.if-second-first.true)

pub returns : goal.returns
unfolding point_support_of
returns c = simp (simp (c.dot-second.ensures, c.dot-first.ensures) at c.if-second-first.false)

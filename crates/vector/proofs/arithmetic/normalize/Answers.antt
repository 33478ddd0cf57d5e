-- `normalize`: the tests pick the definition's case, and each call answers its own definition.
use Rattle.vector.specs.Arithmetic.{normalize_of}
use Rattle.vector.proofs.arithmetic.normalize.Goals as goal

pub returns-then-l : goal.returns-then-l
unfolding normalize_of
returns-then-l c = simp (
  simp c.length_squared-l.ensures at c.if-l.true,
  c.mul_sv.ensures,
  c.root-s.ensures.worked,
  c.length_squared-l.ensures,
)

pub returns : goal.returns
unfolding normalize_of
returns c = simp (simp c.length_squared-l.ensures at c.if-l.false)

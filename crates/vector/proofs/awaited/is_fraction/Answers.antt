-- `is_fraction`: the test picks the definition's case.
use Rattle.vector.specs.Awaited.{is_fraction_of}
use Rattle.vector.proofs.awaited.is_fraction.Goals as goal

pub returns-then-s : goal.returns-then-s
unfolding is_fraction_of
returns-then-s c = simp c.if-s.true

pub returns-else-s : goal.returns-else-s
unfolding is_fraction_of
returns-else-s c = simp c.if-s.false

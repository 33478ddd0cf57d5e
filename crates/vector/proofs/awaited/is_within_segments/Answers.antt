-- `is_within_segments`: the tests pick the definition's case, and each call answers its own definition.
use Rattle.std.proofs.Common.{arith}
use Rattle.std.proofs.lemmas.Grind.{common_steps}
use Rattle.vector.specs.Awaited.{is_within_segments_of}
use Rattle.vector.proofs.awaited.is_within_segments.Goals as goal

pub returns-then-is_fraction : goal.returns-then-is_fraction
unfolding is_within_segments_of
returns-then-is_fraction c = simp (simp c.is_fraction.ensures at c.if-is_fraction.true, c.is_fraction-then-is_fraction.ensures)

pub returns-else-is_fraction : goal.returns-else-is_fraction
unfolding is_within_segments_of
returns-else-is_fraction c = grind (arith, common_steps, simp c.is_fraction.ensures at c.if-is_fraction.false)

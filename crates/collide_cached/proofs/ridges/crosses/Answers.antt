-- `crosses`: the tests of signs, then the parallel test.
use mathlib.Core.Path.{◌∙◌}
use Rattle.collide_cached.specs.Ridges.{crosses_of}
use Rattle.collide_cached.proofs.ridges.crosses.Goals as goal

pub returns-then-cross_over : goal.returns-then-cross_over
unfolding crosses_of
returns-then-cross_over c = simp (
  simp (
    c.cross_over.ensures,
    c.dot-bdc.ensures,
    c.dot-adc.ensures,
    c.dot-dba.ensures,
    c.dot-cba.ensures,
  ) at c.if-cross_over.true,
  c.wide.ensures,
  c.dot-dba.ensures,
  c.dot-cba.ensures,
)

pub returns-else-cross_over : goal.returns-else-cross_over
unfolding crosses_of
returns-else-cross_over c = c.if-cross_over.false ∙ simp (simp (
  c.cross_over.ensures,
  c.dot-bdc.ensures,
  c.dot-adc.ensures,
  c.dot-dba.ensures,
  c.dot-cba.ensures,
) at c.if-cross_over.false)

-- `cross_over`: each test picks its case of the definition.
use mathlib.Core.Path.{◌∙◌}
use Rattle.collide_cached.specs.Ridges.{cross_over}
use Rattle.collide_cached.proofs.ridges.cross_over.Goals as goal

pub returns-then-adc-bdc : goal.returns-then-adc-bdc
unfolding cross_over
returns-then-adc-bdc c = simp (c.if-cba-dba.true, c.if-adc-bdc.true)

pub returns-else-adc-bdc : goal.returns-else-adc-bdc
unfolding cross_over
returns-else-adc-bdc c = c.if-adc-bdc.false ∙ simp (c.if-cba-dba.true, c.if-adc-bdc.false)

pub returns-else-cba-dba : goal.returns-else-cba-dba
unfolding cross_over
returns-else-cba-dba c = c.if-cba-dba.false ∙ simp c.if-cba-dba.false

-- `first_half`: an odd number is none; an even one is, below H.
use Rattle.std.proofs.Common.{arith}
use Rattle.std.proofs.lemmas.Grind.{common_steps}
use Rattle.hull_links.specs.Tests.{◌&◌}
use Rattle.collide_refusals.specs.Refusals.{first_half}
use Rattle.collide_refusals.proofs.first_half.Goals as goal

pub returns-then-e-eq0 : goal.returns-then-e-eq0
unfolding first_half ◌&◌
returns-then-e-eq0 c = grind (arith, common_steps)

pub returns-else-e-eq0 : goal.returns-else-e-eq0
unfolding first_half ◌&◌
returns-else-e-eq0 c = grind (arith, common_steps)

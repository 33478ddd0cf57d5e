-- `is_known`: the arm picks the definition's case.
use Rattle.std.proofs.Common.{arith}
use Rattle.std.proofs.lemmas.Grind.{common_steps}
use Rattle.units.specs.Units.{known_unit}
use Rattle.units.proofs.is_known.Goals as goal

pub returns-in-1 : goal.returns-in-1
unfolding known_unit
returns-in-1 c = grind (arith, common_steps)

pub returns-in_default : goal.returns-in_default
unfolding known_unit
returns-in_default c = grind (arith, common_steps)

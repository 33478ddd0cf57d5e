-- `get_length_units_per_meter`: the arm picks the definition's case.
use Rattle.std.proofs.Common.{arith}
use Rattle.std.proofs.lemmas.Grind.{common_steps}
use Rattle.units.specs.Units.{units_per_meter}
use Rattle.units.proofs.get_length_units_per_meter.Goals as goal

pub returns-in-10 : goal.returns-in-10
unfolding units_per_meter
returns-in-10 c = simp c.in-10.is

pub returns-in-100 : goal.returns-in-100
unfolding units_per_meter
returns-in-100 c = simp c.in-100.is

pub returns-in-1000 : goal.returns-in-1000
unfolding units_per_meter
returns-in-1000 c = simp c.in-1000.is

pub returns-in_default : goal.returns-in_default
unfolding units_per_meter
returns-in_default c = grind (arith, common_steps)

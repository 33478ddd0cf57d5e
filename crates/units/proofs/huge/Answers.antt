-- `huge`: the definition's own product.
use Rattle.units.specs.Limits.{huge}
use Rattle.units.proofs.huge.Goals as goal

pub returns : goal.returns
unfolding huge
returns c = simp c.get_length_units_per_meter.ensures

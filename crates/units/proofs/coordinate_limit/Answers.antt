-- `coordinate_limit`: the definition's own product.
use Rattle.units.specs.Limits.{coordinate_limit}
use Rattle.units.proofs.coordinate_limit.Goals as goal

pub returns : goal.returns
unfolding coordinate_limit
returns c = simp c.get_length_units_per_meter.ensures

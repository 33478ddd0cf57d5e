-- `offset_limit`: the definition's own product.
use Rattle.units.specs.Limits.{offset_limit}
use Rattle.units.proofs.offset_limit.Goals as goal

pub returns : goal.returns
unfolding offset_limit
returns c = simp c.get_length_units_per_meter.ensures

-- `linear_slop`: the definition's own product.
use Rattle.units.specs.Limits.{slop}
use Rattle.units.proofs.linear_slop.Goals as goal

pub returns : goal.returns
unfolding slop
returns c = simp c.get_length_units_per_meter.ensures

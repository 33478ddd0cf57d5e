-- `edge_limit`: the definition's own product.
use Rattle.units.specs.Limits.{edge_limit}
use Rattle.units.proofs.edge_limit.Goals as goal

pub returns : goal.returns
unfolding edge_limit
returns c = simp c.get_length_units_per_meter.ensures

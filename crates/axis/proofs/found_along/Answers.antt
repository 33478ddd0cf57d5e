-- `found_along`: the parts of the definition's record; each side's lead is one that was found.
use Rattle.axis.specs.Search.{found_of}
use Rattle.axis.proofs.Answers.{same_found}
use Rattle.axis.proofs.found_along.Goals as goal

pub returns : goal.returns
unfolding found_of
returns c = same_found c.axis_of.ensures c.axis_of-2.ensures c.edge_axis.ensures

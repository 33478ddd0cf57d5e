-- `edge_axis`: the test picks the definition's case.
use Rattle.axis.specs.Search.{edge_of}
use mathlib.Core.Path.{◌≡◌}
use mathlib.Core.Bool.{true, false}
use Rattle.axis.proofs.edge_axis.Goals as goal

pub returns-then-lead : goal.returns-then-lead
unfolding edge_of
returns-then-lead c = let some : c.args.lead.found ≡ true = c.if-lead.true in
    simp (some, c.axis_of.ensures)

pub returns-else-lead : goal.returns-else-lead
unfolding edge_of
returns-else-lead c = let none : c.args.lead.found ≡ false = c.if-lead.false in
    simp none

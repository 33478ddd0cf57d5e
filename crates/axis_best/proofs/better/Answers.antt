-- `better`: the test picks the definition's case.
use mathlib.Core.Bool.{true, false}
use mathlib.Core.Path.{◌≡◌}
use lib.Ieee.{lt}
use Rattle.axis_best.specs.Leads.{stops_of, better_of}
use Rattle.axis_best.proofs.better.Goals as goal

pub returns-then-separation-lead : goal.returns-then-separation-lead
unfolding better_of stops_of
returns-then-separation-lead c =
    let test = c.before in
    let a = test.args in
    let above : lt a.lead.separation a.separation ≡ true = test.if-separation-lead.true in
    simp (above, c.speculative_distance.ensures)

pub returns : goal.returns
unfolding better_of
returns c =
    let a = c.args in
    let below : lt a.lead.separation a.separation ≡ false = c.if-separation-lead.false in
    simp below

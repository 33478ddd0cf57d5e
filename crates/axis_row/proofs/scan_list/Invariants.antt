-- The loop keeps the lead of the search so far.
use Rattle.axis_row.proofs.Rows.{listed}
use Rattle.axis_edges.specs.Edges.{edge_of_a}
use Rattle.axis_best.specs.Leads.{lead_after}
use mathlib.Core.Bool.{false}
use mathlib.Core.Path.{◌≡◌}
use Rattle.axis_row.proofs.scan_list.Given as goal

abbrev pub invariant-loop-edge : goal.invariant-loop-edge
invariant-loop-edge l =
    let edges = edge_of_a l.hull.size l.hull.numbers.now l.hull.links.now in
    (l.lead ≡ lead_after (listed l.hull.size.unit l.table l.p l.q edges l.b l.j l.list) l.initial.lead l.edge-index) × (l.lead.apart ≡ false)

-- The loop keeps the lead of the search so far, every row where the table is to hold them, and the length of the table.
use Rattle.axis_pairs.specs.inner.Pairs.{edge_in, Table}
use Rattle.axis_edges.specs.Edges.{edge_of_a, row_pairs}
use Rattle.axis_lists.specs.inner.Lists.{vector_in}
use Rattle.axis_best.specs.Leads.{none_of, lead_after}
use lib.ListN.{length}
use mathlib.Core.Bool.{true, false}
use mathlib.Core.Path.{◌≡◌}
use Rattle.axis_pairs.proofs.scan_rows.Given as goal

abbrev pub invariant-loop-j : goal.invariant-loop-j
invariant-loop-j l =
    let edges = edge_of_a l.a.size l.a.numbers.now l.a.links.now in
    let others = edge_in l.lists.turned l.lists.points l.b.size l.b.links.now in
    record {
      lead_is : l.lead ≡ lead_after (λ i. row_pairs l.a.size.unit edges l.n (others i) i) none_of l.j;
      going : l.lead.apart ≡ false;
      long : length l.table ≡ 1024;
      whole_stands : l.whole ≡ true → Table l.lists.turned l.b.size.faces (vector_in l.lists.directions) l.width l.table;
    }

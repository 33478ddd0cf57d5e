-- The loop keeps the lead of the search so far.
use Rattle.axis_row.proofs.Rows.{listed, list_turn}
use Rattle.axis_edges.specs.Edges.{edge_of_a}
use Rattle.axis_best.proofs.Searches.{begins, stays}
use native.Mathlib.Omega.{arith}
use lib.ListN.{length}
use Prim.Native.Nat.{◌+◌}
use Rattle.axis_row.proofs.scan_list.Goals as goal

pub loop-edge-init : goal.loop-edge-init
loop-edge-init c = (begins _ c.args.start, c.requires.going)

pub returns-then-lead : goal.returns-then-lead
returns-then-lead c =
    let a = c.args in
    let h = a.hull.now in
    let r = a.rows.now in
    let l = c.loop-edge in
    let i = l.edge-index in
    let edges = edge_of_a h.size h.numbers.now h.links.now in
    stays (listed h.size.unit r.table.now r.p r.q edges a.b a.j a.list.now) a.start (length a.list.now) (i + 1) _ (omega (arith, c.loop-edge-test.true))
    (list_turn h.size.unit r.table.now r.p r.q edges a.b a.j a.list.now a.start i l.lead _ _ _ l.invariant.0 l.invariant.1
    c.tried-lead.ensures c.edge_of_a-a.ensures c.from-i.ensures) c.if-lead.true

pub loop-edge-preserved : goal.loop-edge-preserved
loop-edge-preserved c =
    let a = c.args in
    let h = a.hull.now in
    let r = a.rows.now in
    let l = c.loop-edge in
    let edges = edge_of_a h.size h.numbers.now h.links.now in (
      list_turn h.size.unit r.table.now r.p r.q edges a.b a.j a.list.now a.start l.edge-index l.lead _ _ _ l.invariant.0 l.invariant.1
          c.tried-lead.ensures c.edge_of_a-a.ensures c.from-i.ensures,
      c.if-lead.false,
    )

-- The loop keeps the lead of the search so far, every row where the table is to hold them, and the length of the table.
use Rattle.axis_pairs.proofs.Tables.{both_of}
use Rattle.axis_pairs.proofs.Turned.{rows_turn}
use Rattle.axis_pairs.specs.inner.Pairs.{edge_in, Table}
use Rattle.axis_edges.specs.Edges.{edge_of_a, row_pairs}
use Rattle.axis_pairs.specs.All.{all_pairs}
use Rattle.axis_lists.specs.inner.Lists.{vector_in}
use Rattle.axis_best.proofs.Searches.{begins, stays}
use Rattle.axis_best.specs.Leads.{none_of, lead_after}
use Rattle.axis_best.specs.declared.Lead.{Lead}
use lib.Ieee.{Float}
use native.Mathlib.Nat.{le_antisymm}
use native.Mathlib.Omega.{arith}
use mathlib.Core.List.{List}
use mathlib.Core.Path.{sym, ap, ◌∙◌, subst}
use Prim.Native.Nat.{◌+◌, ◌*◌}
use Rattle.axis_pairs.proofs.scan_rows.Goals as goal

pub loop-j-init : goal.loop-j-init
loop-j-init c =
    let e = c.none-lead.ensures in
    record { lead_is = e ∙ begins _ none_of; going = ap (λ (x : Lead). x.apart) e; long = c.requires.stand.3; whole_stands = c.requires.stand.4 }

pub rows_of-places-requires : goal.rows_of-places-requires
rows_of-places-requires c =
    let v = c.args.lists.now in
    let b = c.args.b.now in
    let p = c.requires.ready in
    let l = c.loop-j in (
      c.requires.stand.2,
      l.invariant.long,
      λ z. both_of v.turned v.points b.size b.links.now _ c.args.width l.table (l.invariant.whole_stands z) l.j c.edge_of_b-edge.result
          c.edge_of_b-edge.ensures _ _
          (p.other_in.face_in (2 * l.j) (omega (arith, c.loop-j-test.true, p.other_few)))
          (p.other_in.face_in (2 * l.j + 1) (omega (arith, c.loop-j-test.true, p.other_few)))
          c.face_of-first.ensures c.face_of-second.ensures,
    )

pub returns-then-lead : goal.returns-then-lead
unfolding all_pairs
returns-then-lead c =
    let v = c.args.lists.now in
    let a = c.args.a.now in
    let b = c.args.b.now in
    let l = c.loop-j in
    let edges = edge_of_a a.size a.numbers.now a.links.now in
    let others = edge_in v.turned v.points b.size b.links.now in
    stays (λ i. row_pairs a.size.unit edges c.args.n (others i) i) none_of c.args.m (l.j + 1) _ (omega (arith, c.loop-j-test.true))
    (rows_turn a.size.unit edges c.args.n others l.j l.lead _ _ l.invariant.lead_is l.invariant.going c.scan_row-lead.ensures
    c.edge_of_b-edge.ensures) c.if-lead.true

pub loop-j-preserved : goal.loop-j-preserved
loop-j-preserved c =
    let v = c.args.lists.now in
    let a = c.args.a.now in
    let b = c.args.b.now in
    let l = c.loop-j in
    let rows = c.rows_of-places.ensures in
    record {
      lead_is = rows_turn a.size.unit (edge_of_a a.size a.numbers.now a.links.now) c.args.n (edge_in v.turned v.points b.size b.links.now)
          l.j l.lead _ _ l.invariant.lead_is l.invariant.going c.scan_row-lead.ensures c.edge_of_b-edge.ensures;
      going = c.if-lead.false;
      long = rows.0;
      whole_stands = λ z. subst (λ (x : List Float). Table v.turned b.size.faces (vector_in v.directions) c.args.width x) (sym (rows.1 z))
          (l.invariant.whole_stands z);
    }

pub returns : goal.returns
unfolding all_pairs
returns c =
    let v = c.args.lists.now in
    let a = c.args.a.now in
    let b = c.args.b.now in
    let edges = edge_of_a a.size a.numbers.now a.links.now in
    let others = edge_in v.turned v.points b.size b.links.now in
    c.loop-j.invariant.lead_is
    ∙ ap (lead_after (λ i. row_pairs a.size.unit edges c.args.n (others i) i) none_of) (le_antisymm c.loop-j.auto.j-end c.loop-j-test.false)

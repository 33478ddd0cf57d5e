-- The lists are filled, the scan is ready, and the edges of B from the lists are those of the definition.
use Rattle.axis_pairs.proofs.Turned.{pairs_same}
use native.Mathlib.Omega.{arith}
use Prim.Native.Nat.{◌/◌}
use Rattle.axis_pairs.proofs.search_edges.Goals as goal

pub returns : goal.returns
returns c =
    let b = c.args.b.now in
    pairs_same c.args.r c.args.position b.size b.numbers.now b.links.now _ _ c.requires.3
    c.turned_normals.ensures c.turned_points.ensures _ _ _
    (b.size.half_edges / 2) c.scan.result c.scan.ensures (omega arith)

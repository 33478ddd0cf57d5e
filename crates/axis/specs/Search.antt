-- "The axis search answers .. an axis apart with its separation, face A and face B with the edge pair": one of these two, since request k showed that
-- on accepted input each side has a face (proofs/Always.antt). Definitions only.
use Rattle.std.specs.Prelude.{ℕ, ◌/◌, cond, List, Float, Option, Some, None}
use Rattle.vector.specs.declared.Transform.{Transform}
use Rattle.rotation.specs.Rotation.{matrix_of, transpose_of}
use Rattle.hull_links.specs.declared.HullSize.{HullSize}
use Rattle.manifold.specs.declared.kinds.AxisKind.{AxisKind}
use Rattle.axis_best.specs.declared.Lead.{Lead}
use Rattle.axis_faces.specs.declared.Side.{Side}
use Rattle.axis_faces.specs.Faces.{face_search_of}
use Rattle.axis_edges.specs.Edges.{edge_of_a, edge_of_b}
use Rattle.axis_pairs.specs.All.{all_pairs}
use Rattle.axis.specs.declared.Axis.{Axis}
use Rattle.axis.specs.declared.Search.{Search}

-- the axis that leads
unfoldable pub axis_of : Lead → Axis
axis_of lead = record { normal = lead.normal; separation = lead.separation; index_a = lead.index_a; index_b = lead.index_b }

-- the hulls are apart along it
unfoldable pub apart_of : AxisKind → Lead → Search
apart_of kind lead = Search.Apart (record { kind = kind; separation = lead.separation; index_a = lead.index_a; index_b = lead.index_b })

-- the pair of edges, or none
unfoldable pub edge_of : Lead → Option Axis
edge_of lead = cond lead.found (Some (axis_of lead)) None

-- both faces, and the pair of edges
unfoldable pub found_of : Lead → Lead → Lead → Search
found_of a b edge = Search.Found (record { face_a = axis_of a; face_b = axis_of b; edge = edge_of edge })

-- a stop among A's faces, B's faces or the pairs of edges, in this order; else what was found
unfoldable pub search_answer_of : Lead → Lead → Lead → Search
search_answer_of a b edge =
    cond a.apart (apart_of AxisKind.FaceA a) (cond b.apart (apart_of AxisKind.FaceB b) (cond edge.apart (apart_of AxisKind.Edges edge) (found_of a b edge)))

-- the three searches
unfoldable pub side_of_a : HullSize → List Float → HullSize → List Float → Transform → Lead
side_of_a s n t m x = face_search_of Side.A (transpose_of (matrix_of x.q)) x.p s n t m

unfoldable pub side_of_b : HullSize → List Float → HullSize → List Float → Transform → Lead
side_of_b s n t m x = face_search_of Side.B (matrix_of x.q) x.p t m s n

unfoldable pub pairs_of : HullSize → List Float → List ℕ → HullSize → List Float → List ℕ → Transform → Lead
pairs_of s n l t m k x = all_pairs s.unit (edge_of_a s n l) (s.half_edges / 2) (edge_of_b (matrix_of x.q) x.p t m k) (t.half_edges / 2)

-- hull A is (s, n, l), hull B is (t, m, k), and x places B in A's frame
unfoldable pub search_of : HullSize → List Float → List ℕ → HullSize → List Float → List ℕ → Transform → Search
search_of s n l t m k x = search_answer_of (side_of_a s n t m x) (side_of_b s n t m x) (pairs_of s n l t m k x)

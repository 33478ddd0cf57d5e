-- "Cut: points at distance 0 are kept; leaving gives one new vertex, entering gives a new one and the old one." Definitions only.
use Rattle.std.specs.Prelude.{ℕ, Bool, true, false, cond, List, [], ◌∷◌, ◌++◌, Float}
use Rattle.std.specs.Float.Ieee as Ieee
use Rattle.vector.specs.declared.Vec3.{Vec3}
use Rattle.vector.specs.declared.Plane.{Plane}
use Rattle.vector.specs.Rounded.{float, ◌⊖◌, ◌⊘◌}
use Rattle.vector.specs.Arithmetic.{sub_of, mul_add_of}
use Rattle.vector.specs.Shape.{plane_separation_of}
use Rattle.manifold.specs.declared.FeaturePair.{FeaturePair}
use Rattle.manifold.specs.declared.ClipVertex.{ClipVertex}
use Rattle.manifold.specs.Records.{zero_vertex}

-- a distance from the plane that is kept, 0 too, and one beyond it; a NaN is neither
abbrev pub kept : Float → Bool
kept d = Ieee.le d (float 0)

abbrev pub beyond : Float → Bool
beyond d = Ieee.lt (float 0) d

-- where the edge from v1 to v2, d1 and d2 from the plane, meets it
unfoldable pub meeting_of : ClipVertex → Float → ClipVertex → Float → Vec3
meeting_of v1 d1 v2 d2 = mul_add_of v1.position (d1 ⊘ (d1 ⊖ d2)) (sub_of v2.position v1.position)

-- a new vertex at p
abbrev new_vertex : Plane → Vec3 → FeaturePair → ClipVertex
new_vertex reference p pair = record { position = p; separation = plane_separation_of reference p; pair = pair }

-- the new vertex of an edge that leaves: v2's first edge, and then the edge of A that cuts
unfoldable pub leaving_of : ℕ → Plane → ClipVertex → Float → ClipVertex → Float → ClipVertex
leaving_of edge reference v1 d1 v2 d2 =
    new_vertex reference (meeting_of v1 d1 v2 d2) (record { owner1 = v2.pair.owner1; index1 = v2.pair.index1; owner2 = 0; index2 = edge })

-- and of one that enters: the edge of A that cuts, and then v1's second edge
unfoldable pub entering_of : ℕ → Plane → ClipVertex → Float → ClipVertex → Float → ClipVertex
entering_of edge reference v1 d1 v2 d2 =
    new_vertex reference (meeting_of v1 d1 v2 d2) (record { owner1 = 0; index1 = edge; owner2 = v1.pair.owner2; index2 = v1.pair.index2 })

-- what the edge from v1 to v2 puts out
unfoldable pub put_out_of : ℕ → Plane → ClipVertex → Float → ClipVertex → Float → List ClipVertex
put_out_of edge reference v1 d1 v2 d2 =
    cond (kept d1)
    (cond (kept d2) (v2 ∷ []) (cond (beyond d2) (leaving_of edge reference v1 d1 v2 d2 ∷ []) []))
    (cond (beyond d1) (cond (kept d2) (entering_of edge reference v1 d1 v2 d2 ∷ v2 ∷ []) []) [])

-- what the edges to the vertices of a list put out, the first of them from v1
unfoldable pub cut_from : Plane → ℕ → Plane → ClipVertex → List ClipVertex → List ClipVertex
cut_from plane edge reference v1 [] = []
cut_from plane edge reference v1 (v2 ∷ vs) =
    put_out_of edge reference v1 (plane_separation_of plane v1.position) v2 (plane_separation_of plane v2.position)
    ++ cut_from plane edge reference v2 vs

-- the last of a list, v where it is empty
unfoldable pub last_of : ClipVertex → List ClipVertex → ClipVertex
last_of v [] = v
last_of v (w ∷ vs) = last_of w vs

-- the whole cut: the first edge comes from the last vertex
unfoldable pub cut_of : Plane → ℕ → Plane → List ClipVertex → List ClipVertex
cut_of plane edge reference vs = cut_from plane edge reference (last_of zero_vertex vs) vs

-- whether every vertex is kept
unfoldable pub all_kept : Plane → List ClipVertex → Bool
all_kept plane [] = true
all_kept plane (v ∷ vs) = cond (kept (plane_separation_of plane v.position)) (all_kept plane vs) false

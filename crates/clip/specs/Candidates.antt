-- "A face ring longer than 64 is read to 64. .. What the last cut leaves are the candidates, told apart by their place in that list". Definitions only.
use Rattle.std.specs.Prelude.{ℕ, Bool, cond, ◌&&◌, List, [], ◌∷◌, map, length, take, leb, Float}
use Rattle.vector.specs.declared.Vec3.{Vec3}
use Rattle.vector.specs.declared.Plane.{Plane}
use Rattle.vector.specs.declared.Transform.{Transform}
use Rattle.vector.specs.Arithmetic.{add_of, sub_of, cross_of, normalize_of}
use Rattle.vector.specs.Shape.{plane_separation_of, plane_of}
use Rattle.rotation.specs.Rotation.{Rows, matrix_of, mul_mv_of, inv_rotate_of}
use Rattle.manifold.specs.declared.ClipVertex.{ClipVertex}
use Rattle.manifold.specs.declared.pairs.FeatureOwner.{FeatureOwner}
use Rattle.manifold.specs.Pairs.{pair_of}
use Rattle.hull_links.specs.declared.HullSize.{HullSize}
use Rattle.hull_links.specs.Links.{next, origin, face_ring}
use Rattle.hull.specs.Numbers.{vertex_at, plane_at}
use Rattle.clip_cut.specs.Cut.{cut_of}
use Rattle.clip_incident.specs.Incident.{incident_face_of}

-- ---- the incident face as a polygon
-- a corner of the other hull at this place, tagged with these half-edges of it
unfoldable pub tagged_of : Plane → Vec3 → ℕ → ℕ → ClipVertex
tagged_of reference p e ahead =
    record { position = p; separation = plane_separation_of reference p; pair = pair_of FeatureOwner.ShapeB e FeatureOwner.ShapeB ahead }

-- the corner at the end of half-edge e, carried into the frame of the reference face, and tagged with e and the half-edge after it
unfoldable pub corner_of : HullSize → List Float → List ℕ → Rows → Vec3 → Plane → ℕ → ClipVertex
corner_of s n l matrix p reference e =
    tagged_of reference (add_of (mul_mv_of matrix (vertex_at s n (origin s l (next s l e)))) p) e (next s l e)

-- the ring of a face from its stored edge, read to 64
unfoldable pub built_of : HullSize → List Float → List ℕ → Transform → Plane → ℕ → List ClipVertex
built_of s n l t reference f = map (corner_of s n l (matrix_of t.q) t.p reference) (take 64 (face_ring s l f))

-- ---- the cuts round the reference face
-- the plane on half-edge e, across a face with this normal
unfoldable pub side_plane_of : HullSize → List Float → List ℕ → Vec3 → ℕ → Plane
side_plane_of s n l normal e =
    plane_of (cross_of (normalize_of (sub_of (vertex_at s n (origin s l (next s l e))) (vertex_at s n (origin s l e)))) normal) (vertex_at s n (origin s l e))

-- the cut on half-edge e of face f
unfoldable pub cut_on : HullSize → List Float → List ℕ → ℕ → ℕ → List ClipVertex → List ClipVertex
cut_on s n l f e vs = cut_of (side_plane_of s n l (plane_at s n f).normal e) e (plane_at s n f) vs

-- three corners or more, and no 65th
unfoldable pub goes_on : List ClipVertex → Bool
goes_on vs = leb 3 (length vs) && leb (length vs) 64

-- the cuts on these half-edges of face f, one after the other, as long as they go on
unfoldable pub cut_round : HullSize → List Float → List ℕ → ℕ → List ℕ → List ClipVertex → List ClipVertex
cut_round s n l f [] vs = vs
cut_round s n l f (e ∷ es) vs = cond (goes_on (cut_on s n l f e vs)) (cut_round s n l f es (cut_on s n l f e vs)) (cut_on s n l f e vs)

-- ---- the candidates
-- of face f of hull A and the vertex v of hull B, t carrying B into A's frame: the incident face at v, cut round f. More than 64 is refusal 6, and
-- fewer than 3 do not touch.
unfoldable pub candidates_of : HullSize → List Float → List ℕ → HullSize → List Float → List ℕ → Transform → ℕ → ℕ → List ClipVertex
candidates_of s_a n_a l_a s_b n_b l_b t f v =
    let reference = plane_at s_a n_a f in
    cut_round s_a n_a l_a f (face_ring s_a l_a f) (built_of s_b n_b l_b t reference (incident_face_of s_b n_b l_b (inv_rotate_of t.q reference.normal) v))

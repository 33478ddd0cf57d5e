-- The contact of a pair of edges: "the edge pair's one point is its own candidate and image", and "An edge point has place 0" (document 02, d).
-- Definitions only; `line_distance` and `is_within_segments` are awaited and go by their names.
use Rattle.std.specs.Prelude.{ℕ, cond, List, [], ◌∷◌, Float}
use Rattle.vector.specs.declared.Vec3.{Vec3}
use Rattle.vector.specs.declared.Transform.{Transform}
use Rattle.vector.specs.declared.awaited.LineDistance.{LineDistance}
use Rattle.vector.specs.Rounded.{float}
use Rattle.vector.specs.Arithmetic.{add_of, sub_of, dot_of, mul_sv_of}
use Rattle.vector.specs.Awaited.{line_distance_of, is_within_segments_of}
use Rattle.rotation.specs.Rotation.{transform_point_of}
use Rattle.manifold.specs.declared.ClipVertex.{ClipVertex}
use Rattle.manifold.specs.declared.pairs.FeatureOwner.{FeatureOwner}
use Rattle.manifold.specs.Pairs.{pair_of}
use Rattle.hull_links.specs.declared.HullSize.{HullSize}
use Rattle.hull_links.specs.Links.{twin, origin}
use Rattle.hull.specs.Numbers.{vertex_at}
use Rattle.reduce_points.specs.Points.{point_of, contact_of}
use Rattle.collide_outcome.specs.Builds.{Built, touched_of, missed}

-- the one point, of half-edges a and b: halfway between the nearest points, tagged with both
unfoldable pub edge_point : LineDistance → Vec3 → ℕ → ℕ → ClipVertex
edge_point nearest normal a b =
    record {
      position = mul_sv_of (float 0x3f00_0000) (add_of nearest.point1 nearest.point2);
      separation = dot_of normal (sub_of nearest.point2 nearest.point1);
      pair = pair_of FeatureOwner.ShapeA a FeatureOwner.ShapeB b;
    }

-- no point where a nearest point lies outside its segment
unfoldable pub along_of : LineDistance → Vec3 → ℕ → ℕ → Built
along_of nearest normal a b =
    let point = edge_point nearest normal a b in
    cond (is_within_segments_of nearest) (touched_of (contact_of normal (point_of 0 point ∷ [])) point.separation 4 a b) missed

-- where the lines of half-edge a of A and half-edge b of B, carried into A's frame, lie nearest
unfoldable pub nearest_of : HullSize → List Float → List ℕ → HullSize → List Float → List ℕ → Transform → ℕ → ℕ → LineDistance
nearest_of s n l t m k x a b =
    let p_a = vertex_at s n (origin s l a) in
    let q_a = vertex_at s n (origin s l (twin s l a)) in
    let p_b = transform_point_of x (vertex_at t m (origin t k b)) in
    let q_b = transform_point_of x (vertex_at t m (origin t k (twin t k b))) in
    line_distance_of p_a (sub_of q_a p_a) p_b (sub_of q_b p_b)

-- the contact of these half-edges along this normal
unfoldable pub edge_contact_of : HullSize → List Float → List ℕ → HullSize → List Float → List ℕ → Transform → Vec3 → ℕ → ℕ → Built
edge_contact_of s n l t m k x normal a b = along_of (nearest_of s n l t m k x a b) normal a b

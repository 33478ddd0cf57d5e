-- The cached axis tried again: "Type 2 or 3: support vertex and separation of the cached face. At or above speculative: hit 1, no points. Else build
-- the face contact with a fresh cache; if it touches and the two separations differ by less than slop: hit 1, done, other cache fields kept. Else
-- full search. Type 4: the three sign tests, the 0.005 parallel test, then the axis. Strictly above speculative: hit 1, no points. Else as for a
-- face." Definitions only.
use Rattle.std.specs.Prelude.{ℕ, cond, List, Float}
use Rattle.std.specs.Float.Ieee as Ieee
use Rattle.vector.specs.declared.Transform.{Transform}
use Rattle.vector.specs.Arithmetic.{sub_of, neg_of, dot_of}
use Rattle.vector.specs.Shape.{plane_separation_of}
use Rattle.rotation.specs.Rotation.{rotate_of, inv_rotate_of, transform_point_of, inv_transform_point_of}
use Rattle.units.specs.Limits.{speculative}
use Rattle.manifold.specs.declared.SatCache.{SatCache}
use Rattle.manifold.specs.Records.{empty_contact}
use Rattle.hull_links.specs.declared.HullSize.{HullSize}
use Rattle.hull.specs.Numbers.{vertex_at, plane_at, support_at}
use Rattle.contacts.specs.Faces.{face_a_of, face_b_of}
use Rattle.contacts.specs.EdgePairs.{edge_contact_of}
use Rattle.collide_outcome.specs.Served.{Cached, hit_with, no_hit, served_of}
use Rattle.collide_cached.specs.Ridges.{ridge_of, carried_ridge, crosses_of, axis_between}

-- ---- types 2 and 3: hull A is (s, n, l), hull B is (t, m, k), of one unit, and x places B in A's frame
-- the vertex of B that is deepest below face f of A, and how far it is from it
unfoldable pub deepest_below_a : HullSize → List Float → HullSize → List Float → Transform → ℕ → ℕ
deepest_below_a s n t m x f = support_at t m (neg_of (inv_rotate_of x.q (plane_at s n f).normal))

unfoldable pub separation_from_a : HullSize → List Float → HullSize → List Float → Transform → ℕ → Float
separation_from_a s n t m x f = plane_separation_of (plane_at s n f) (transform_point_of x (vertex_at t m (deepest_below_a s n t m x f)))

unfoldable pub cached_face_a_of : HullSize → List Float → List ℕ → HullSize → List Float → List ℕ → Transform → SatCache → Cached
cached_face_a_of s n l t m k x cache =
    let f = cache.index_a in
    cond (Ieee.le (speculative s.unit) (separation_from_a s n t m x f)) (hit_with empty_contact)
    (served_of s.unit cache (face_a_of s n l t m k x f (deepest_below_a s n t m x f)))

-- the vertex of A that is deepest below face f of B, and how far it is from it
unfoldable pub deepest_below_b : HullSize → List Float → HullSize → List Float → Transform → ℕ → ℕ
deepest_below_b s n t m x f = support_at s n (neg_of (rotate_of x.q (plane_at t m f).normal))

unfoldable pub separation_from_b : HullSize → List Float → HullSize → List Float → Transform → ℕ → Float
separation_from_b s n t m x f = plane_separation_of (plane_at t m f) (inv_transform_point_of x (vertex_at s n (deepest_below_b s n t m x f)))

unfoldable pub cached_face_b_of : HullSize → List Float → List ℕ → HullSize → List Float → List ℕ → Transform → SatCache → Cached
cached_face_b_of s n l t m k x cache =
    let f = cache.index_b in
    cond (Ieee.le (speculative s.unit) (separation_from_b s n t m x f)) (hit_with empty_contact)
    (served_of s.unit cache (face_b_of s n l t m k x f (deepest_below_b s n t m x f)))

-- ---- type 4
unfoldable pub cached_edge_of : HullSize → List Float → List ℕ → HullSize → List Float → List ℕ → Transform → SatCache → Cached
cached_edge_of s n l t m k x cache =
    let a = ridge_of s n l cache.index_a in
    let b = carried_ridge x t m k cache.index_b in
    let axis = axis_between a b in
    cond (crosses_of a b)
    (cond (Ieee.lt (speculative s.unit) (dot_of axis (sub_of a.end b.end))) (hit_with empty_contact)
    (served_of s.unit cache (edge_contact_of s n l t m k x (neg_of axis) cache.index_a cache.index_b)))
    (no_hit 0)

-- The incident face: "the fan of the vertex, normalised edges, strict `<` for a new least, the face with the smaller dot, second on a tie". Definitions only.
use Rattle.std.specs.Prelude.{ℕ, cond, List, [], ◌∷◌, Float}
use Rattle.std.specs.Float.Ieee as Ieee
use Rattle.vector.specs.declared.Vec3.{Vec3}
use Rattle.vector.specs.Rounded.{float}
use Rattle.vector.specs.Scalar.{abs_of}
use Rattle.vector.specs.Arithmetic.{sub_of, dot_of, normalize_of}
use Rattle.hull_links.specs.declared.HullSize.{HullSize}
use Rattle.hull_links.specs.Links.{twin, origin, face, vertex_edge, fan}
use Rattle.hull.specs.Numbers.{vertex_at, plane_at}
use Rattle.clip_incident.specs.declared.Flattest.{Flattest}

-- how far half-edge e, normalised, lies along the normal; p is where it starts
unfoldable pub projection_of : HullSize → List Float → List ℕ → Vec3 → Vec3 → ℕ → Float
projection_of s n l normal p e = abs_of (dot_of (normalize_of (sub_of (vertex_at s n (origin s l (twin s l e))) p)) normal)

-- a new least is strictly less
unfoldable pub flatter_of : Flattest → ℕ → Float → Flattest
flatter_of best e x = cond (Ieee.lt x best.projection) (record { edge = e; projection = x }) best

-- the least of these half-edges
unfoldable pub flattest_from : HullSize → List Float → List ℕ → Vec3 → Vec3 → Flattest → List ℕ → Flattest
flattest_from s n l normal p best [] = best
flattest_from s n l normal p best (e ∷ es) = flattest_from s n l normal p (flatter_of best e (projection_of s n l normal p e)) es

-- the least of the fan of vertex v, from the largest float on; on accepted input a half-edge is always below that (crates/promises/specs/Incident.antt)
unfoldable pub flattest_of : HullSize → List Float → List ℕ → Vec3 → ℕ → ℕ
flattest_of s n l normal v = (flattest_from s n l normal (vertex_at s n v) (record { edge = vertex_edge s l v; projection = float 0x7f7f_ffff })
    (fan s l v)).edge

-- the face with the smaller dot, of half-edge e and its twin
unfoldable pub lower_face_of : HullSize → List Float → List ℕ → Vec3 → ℕ → ℕ
lower_face_of s n l normal e =
    cond (Ieee.lt (dot_of (plane_at s n (face s l e)).normal normal) (dot_of (plane_at s n (face s l (twin s l e))).normal normal))
    (face s l e) (face s l (twin s l e))

unfoldable pub incident_face_of : HullSize → List Float → List ℕ → Vec3 → ℕ → ℕ
incident_face_of s n l normal v = lower_face_of s n l normal (flattest_of s n l normal v)

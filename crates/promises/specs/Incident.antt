-- The search for the incident face begins from the largest float, and on accepted input always finds an edge: every half-edge of the other hull has a
-- projection below that float, against the normal that the candidates of any face are made with. So the case in which the Rust text has no edge
-- and panics is never met. Definitions only; proofs/Incident.antt shows it.
use Rattle.std.specs.Prelude.{ℕ, ◌<◌, true, List, ◌≡◌, Float}
use Rattle.std.specs.Float.Ieee.{lt}
use Rattle.vector.specs.declared.Vec3.{Vec3}
use Rattle.vector.specs.declared.Transform.{Transform}
use Rattle.vector.specs.Rounded.{float}
use Rattle.rotation.specs.Rotation.{inv_rotate_of}
use Rattle.hull_links.specs.declared.HullSize.{HullSize}
use Rattle.hull_links.specs.Links.{vertex_edge, face_ring, fan}
use Rattle.hull.specs.Numbers.{vertex_at, plane_at}
use Rattle.clip_incident.specs.Incident.{projection_of, flattest_from, lower_face_of}
use Rattle.clip.specs.Candidates.{built_of, cut_round, candidates_of}

-- the normal of face f of the reference hull, carried into the other hull's frame
abbrev pub carried : HullSize → List Float → Transform → ℕ → Vec3
carried s n x f = inv_rotate_of x.q (plane_at s n f).normal

-- the reference hull is (s, n, l), the other is (t, m, k), and x places the other in its frame
module _ (s : HullSize) (n : List Float) (l : List ℕ) (t : HullSize) (m : List Float) (k : List ℕ) (x : Transform) where
  -- what is shown of face f and the other hull's vertex v
  pub record EdgeFound (f v : ℕ) : Type 0 where
    pub below : (e : ℕ) → e < t.half_edges → lt (projection_of t m k (carried s n x f) (vertex_at t m v) e) (float 0x7f7f_ffff) ≡ true
    -- the candidates are those of a search that begins from the stored edge and its projection
    pub candidates : candidates_of s n l t m k x f v
        ≡ cut_round s n l f (face_ring s l f) (built_of t m k x (plane_at s n f) (lower_face_of t m k (carried s n x f)
        (flattest_from t m k (carried s n x f) (vertex_at t m v)
        (record { edge = vertex_edge t k v; projection = projection_of t m k (carried s n x f) (vertex_at t m v) (vertex_edge t k v) }) (fan t k v)).edge))

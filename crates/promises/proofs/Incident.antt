-- On accepted input the search for the incident face always finds an edge (specs/Incident.antt). Assumes nothing.
use Prim.Native.Nat.{ℕ, ◌<◌}
use mathlib.Core.List.{List}
use mathlib.Core.Path.{◌≡◌, ap}
use lib.Ieee.{Float}
use Rattle.bounds.specs.Bound.{Below}
use Rattle.vector.specs.declared.Transform.{Transform}
use Rattle.vector.specs.Bounded.{VecBelow}
use Rattle.vector.proofs.Bounded.{more_below}
use Rattle.rotation.specs.Rotation.{invert_of}
use Rattle.rotation.proofs.Bounded.{inv_rotate_below, inverted_below}
use Rattle.manifold.specs.declared.SatCache.{SatCache}
use Rattle.hull_links.specs.declared.HullSize.{HullSize}
use Rattle.hull_links.specs.Links.{face_ring}
use Rattle.hull.specs.Numbers.{plane_at}
use Rattle.hull.specs.Accepted.{Accepted}
use Rattle.clip_incident.specs.Incident.{lower_face_of, incident_face_of}
use Rattle.clip_incident.proofs.Below.{projection_found, flattest_begins}
use Rattle.clip.specs.Candidates.{built_of, cut_round, candidates_of}
use Rattle.collide_refusals.specs.Refusals.{refusal_of}
use Rattle.collide_refusals.proofs.Cases.{unrefused}
use Rattle.promises.specs.Incident.{carried, EdgeFound}

-- the reference hull is (s, n, l), the other is (t, m, k), and x places the other in its frame
module _ (s : HullSize) (n : List Float) (l : List ℕ) (t : HullSize) (m : List Float) (k : List ℕ) (x : Transform) where
  found : Accepted s n l → Accepted t m k → VecBelow 1 x.q.v → Below 1 x.q.s → (f v : ℕ) → f < s.faces → v < t.vertices
      → EdgeFound s n l t m k x f v
  unfolding candidates_of incident_face_of
  found a b p w f v i j =
      let normal : VecBelow 43 (carried s n x f) = more_below 43 tt (inv_rotate_below tt p w (a.normals_below f i)) in
      record {
        below = projection_found b (carried s n x f) normal v j;
        candidates = ap (λ (e : ℕ). cut_round s n l f (face_ring s l f) (built_of t m k x (plane_at s n f) (lower_face_of t m k (carried s n x f) e)))
            (flattest_begins b (carried s n x f) normal v j);
      }

-- ---- hull A is (s, n, l), hull B is (t, m, k), and x places B in A's frame: a face of A with a vertex of B, and a face of B with a vertex of A
module _ (s : HullSize) (n : List Float) (l : List ℕ) (t : HullSize) (m : List Float) (k : List ℕ) (x : Transform) (cache : SatCache)
    (right : refusal_of s n l t m k x cache ≡ 0) where
  pub on_face_a : (f v : ℕ) → f < s.faces → v < t.vertices → EdgeFound s n l t m k x f v
  on_face_a = let r = unrefused s n l t m k x cache right in
      found s n l t m k x r.0 r.1 r.2.turn_below r.2.scalar_below

  pub on_face_b : (f v : ℕ) → f < t.faces → v < s.vertices → EdgeFound t m k s n l (invert_of x) f v
  on_face_b = let r = unrefused s n l t m k x cache right in
      let back = inverted_below x r.2.turn_below r.2.scalar_below in
      found t m k s n l (invert_of x) r.1 r.0 back.0 back.1

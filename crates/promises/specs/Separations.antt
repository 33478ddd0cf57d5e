-- Request k of document 02: "With all numbers inside H8 and the transform's limits, every face separation should be a finite number, so that the first
-- face always becomes the best. Show this for the four units." Definitions only; proofs/Separations.antt shows it of all that is accepted, whatever its
-- unit, and the axis search, whose answer has no case for a side without a face, rests on it.
use Rattle.std.specs.Prelude.{ℕ, ◌<◌, true, List, ◌≡◌, T, Float}
use Rattle.std.specs.Float.Ieee.Scale.{finite}
use Rattle.vector.specs.declared.Transform.{Transform}
use Rattle.rotation.specs.Rotation.{matrix_of, transpose_of}
use Rattle.hull_links.specs.declared.HullSize.{HullSize}
use Rattle.hull.specs.Numbers.{plane_at}
use Rattle.axis_best.specs.declared.Lead.{Lead}
use Rattle.axis_best.specs.Leads.{none_of, new_best, lead_after}
use Rattle.axis_faces.specs.declared.Face.{Face}
use Rattle.axis_faces.specs.declared.Side.{Side}
use Rattle.axis_faces.specs.Faces.{face_taken_of, face_of}
use Rattle.axis.specs.Search.{side_of_a, side_of_b}

-- ---- hull A is (s, n), hull B is (t, m), and x places B in A's frame
module _ (s : HullSize) (n : List Float) (t : HullSize) (m : List Float) (x : Transform) where
  -- face f of A against B's vertices, and face f of B against A's
  abbrev pub face_of_a : ℕ → Face
  face_of_a f = face_of Side.A (transpose_of (matrix_of x.q)) x.p t m (plane_at s n f)

  abbrev pub face_of_b : ℕ → Face
  face_of_b f = face_of Side.B (matrix_of x.q) x.p s n (plane_at t m f)

  -- the best of the first i faces of A, and of B
  abbrev pub best_of_a : ℕ → Lead
  best_of_a = lead_after (λ f. face_taken_of Side.A s.unit (face_of_a f) f) none_of

  abbrev pub best_of_b : ℕ → Lead
  best_of_b = lead_after (λ f. face_taken_of Side.B t.unit (face_of_b f) f) none_of

  -- what the request asks for, and what comes of it
  pub record FacesFound : Type 0 where
    -- every face separation is a finite number
    pub finite_a : (f : ℕ) → f < s.faces → T (finite (face_of_a f).separation)
    pub finite_b : (f : ℕ) → f < t.faces → T (finite (face_of_b f).separation)
    -- the first face becomes the best: with its normal, its separation, its number and that of its vertex
    pub first_a : best_of_a 1 ≡ new_best s.unit (face_of_a 0).normal (face_of_a 0).separation 0 (face_of_a 0).vertex
    pub first_b : best_of_b 1 ≡ new_best t.unit (face_of_b 0).normal (face_of_b 0).separation (face_of_b 0).vertex 0
    -- so a face of each side is found
    pub found_a : (side_of_a s n t m x).found ≡ true
    pub found_b : (side_of_b s n t m x).found ≡ true

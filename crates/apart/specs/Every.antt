-- "A search that goes through every axis and then looks at the largest separation" (document 02, b): A's faces, B's faces, then the pairs of edges, in the
-- text's order, and no stop. An axis is tried as in the search that stops: it is the best where its separation is strictly greater than the best before it,
-- so a NaN never is. Definitions only.
use Rattle.std.specs.Prelude.{ℕ, zero, suc, ◌/◌, Bool, List, Float}
use Rattle.std.specs.Float.Ieee as Ieee
use Rattle.vector.specs.declared.Vec3.{Vec3}
use Rattle.vector.specs.declared.Transform.{Transform}
use Rattle.units.specs.Limits.{speculative}
use Rattle.rotation.specs.Rotation.{Rows, matrix_of, transpose_of}
use Rattle.hull_links.specs.declared.HullSize.{HullSize}
use Rattle.hull.specs.Numbers.{plane_at}
use Rattle.axis_best.specs.declared.Lead.{Lead}
use Rattle.axis_best.specs.Leads.{none_of}
use Rattle.axis_faces.specs.declared.Side.{Side}
use Rattle.axis_faces.specs.Faces.{face_of, face_taken_of}
use Rattle.axis_edges.specs.declared.Edge.{Edge}
use Rattle.axis_edges.specs.Edges.{edge_of_a, edge_of_b, edge_pair_of}

-- strictly above the speculative distance of the unit
unfoldable pub is_far : ℕ → Float → Bool
is_far unit separation = Ieee.lt (speculative unit) separation

-- what the steps 0 to n - 1 make of the best so far, none left out
unfoldable pub best_through : (ℕ → Lead → Lead) → ℕ → Lead → Lead
best_through step zero best = best
best_through step (suc n) best = step n (best_through step n best)

-- every face of hull (s, n) against the vertices of hull (t, m)
unfoldable pub through_faces : Side → Rows → Vec3 → HullSize → List Float → HullSize → List Float → Lead → Lead
through_faces side turn position s n t m = best_through (λ f. face_taken_of side s.unit (face_of side turn position t m (plane_at s n f)) f) s.faces

-- every edge of B, 0 to m - 1, against every edge of A, 0 to n - 1
unfoldable pub through_pairs : ℕ → (ℕ → Edge) → ℕ → (ℕ → Edge) → ℕ → Lead → Lead
through_pairs unit a n b m = best_through (λ j. best_through (λ i. edge_pair_of unit (a i) (b j) i j) n) m

-- hull A is (s, n, l), hull B is (t, m, k), and x places B in A's frame
module _ (s : HullSize) (n : List Float) (l : List ℕ) (t : HullSize) (m : List Float) (k : List ℕ) (x : Transform) where
  -- the best of all axes
  unfoldable pub best_of_all : Lead
  best_of_all =
      let r = matrix_of x.q in
      let p = x.p in
      let of_a = through_faces Side.A (transpose_of r) p s n t m none_of in
      let of_b = through_faces Side.B r p t m s n of_a in
      through_pairs s.unit (edge_of_a s n l) (s.half_edges / 2) (edge_of_b r p t m k) (t.half_edges / 2) of_b

  unfoldable pub largest_separation : Float
  largest_separation = best_of_all.separation

  -- the hulls are apart where it is that far
  unfoldable pub apart_by_every : Bool
  apart_by_every = is_far s.unit largest_separation

-- Every axis by itself: which of them are farther apart than the speculative distance. Definitions only; proofs/Axes.antt shows that the question is
-- answered by yes exactly where one of them is.
use Rattle.std.specs.Prelude.{ℕ, ◌/◌, ◌<◌, Bool, true, false, cond, List, ◌≡◌, Float}
use Rattle.vector.specs.declared.Vec3.{Vec3}
use Rattle.vector.specs.declared.Transform.{Transform}
use Rattle.rotation.specs.Rotation.{Rows, matrix_of, transpose_of}
use Rattle.hull_links.specs.declared.HullSize.{HullSize}
use Rattle.hull.specs.Numbers.{plane_at}
use Rattle.axis_faces.specs.declared.Side.{Side}
use Rattle.axis_faces.specs.Faces.{face_of}
use Rattle.axis_edges.specs.declared.Edge.{Edge}
use Rattle.axis_edges.specs.Edges.{dot_right, passes_of, parallel_of, axis_across_of, edge_separation_of, edge_of_a, edge_of_b}
use Rattle.apart.specs.Every.{is_far}

-- face f of hull (s, n) against the vertices of hull (t, m)
unfoldable pub face_far : Side → Rows → Vec3 → HullSize → List Float → HullSize → List Float → ℕ → Bool
face_far side turn position s n t m f = is_far s.unit (face_of side turn position t m (plane_at s n f)).separation

-- an edge of A and an edge of B; a pair that fails the edge tests or is near parallel has no axis
unfoldable pub pair_far : ℕ → Edge → Edge → Bool
pair_far unit a b =
    let cba = dot_right b.normal0 a.direction in
    let dba = dot_right b.normal1 a.direction in
    let adc = dot_right a.normal0 b.direction in
    let bdc = dot_right a.normal1 b.direction in
    let axis = axis_across_of cba dba b.normal0 b.normal1 in
    cond (passes_of cba dba adc bdc) (cond (parallel_of cba dba a.direction) false (is_far unit (edge_separation_of axis a.vertex b.vertex))) false

-- hull A is (s, n, l), hull B is (t, m, k), and x places B in A's frame
module _ (s : HullSize) (n : List Float) (l : List ℕ) (t : HullSize) (m : List Float) (k : List ℕ) (x : Transform) where
  -- one axis that is that far: of face f of A, of face f of B, of edge i of A and edge j of B
  pub data FarAxis : Type 0 where
    of_a : (f : ℕ) → f < s.faces → face_far Side.A (transpose_of (matrix_of x.q)) x.p s n t m f ≡ true → FarAxis
    of_b : (f : ℕ) → f < t.faces → face_far Side.B (matrix_of x.q) x.p t m s n f ≡ true → FarAxis
    of_edges : (i j : ℕ) → i < s.half_edges / 2 → j < t.half_edges / 2
        → pair_far s.unit (edge_of_a s n l i) (edge_of_b (matrix_of x.q) x.p t m k j) ≡ true → FarAxis

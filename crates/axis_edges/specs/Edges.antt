-- One edge of B against A's edges: "the edge tests at -0.0001 with >=, the parallel test with <=, all sums in the text's own orders". B's edges are in
-- A's frame and negated. Definitions only.
use Rattle.std.specs.Prelude.{ℕ, ◌+◌, ◌*◌, Bool, true, false, cond, List, Float}
use Rattle.std.specs.Float.Ieee as Ieee
use Rattle.root.specs.Root.{root_of}
use Rattle.vector.specs.declared.Vec3.{Vec3}
use Rattle.vector.specs.Rounded.{◌⊕◌, ◌⊖◌, ◌⊗◌, ◌⊘◌, float}
use Rattle.vector.specs.Scalar.{max_of}
use Rattle.rotation.specs.Rotation.{Rows}
use Rattle.rotation.specs.Bounded.{row_of}
use Rattle.hull_links.specs.declared.HullSize.{HullSize}
use Rattle.hull_links.specs.Links.{origin, face}
use Rattle.hull.specs.Numbers.{vertex_at, plane_at}
use Rattle.axis_best.specs.declared.Lead.{Lead}
use Rattle.axis_best.specs.Leads.{better_of, lead_after}
use Rattle.axis_edges.specs.declared.Edge.{Edge}

-- ---- the edges

-- x + (y + z)
unfoldable pub dot_right : Vec3 → Vec3 → Float
dot_right a b = a.x ⊗ b.x ⊕ (a.y ⊗ b.y ⊕ a.z ⊗ b.z)

-- by component
unfoldable pub difference_of : Vec3 → Vec3 → Vec3
difference_of a b = record { x = a.x ⊖ b.x; y = a.y ⊖ b.y; z = a.z ⊖ b.z }

unfoldable pub sum_of : Vec3 → Vec3 → Vec3
sum_of a b = record { x = a.x ⊕ b.x; y = a.y ⊕ b.y; z = a.z ⊕ b.z }

-- half-edges 2i and 2i + 1 are edge i: direction, the normals of its two faces, first vertex
unfoldable pub edge_of_a : HullSize → List Float → List ℕ → ℕ → Edge
edge_of_a s n l i =
    record {
      direction = difference_of (vertex_at s n (origin s l (2 * i + 1))) (vertex_at s n (origin s l (2 * i)));
      normal0 = (plane_at s n (face s l (2 * i))).normal;
      normal1 = (plane_at s n (face s l (2 * i + 1))).normal;
      vertex = vertex_at s n (origin s l (2 * i));
    }

-- a normal and a vertex of B in A's frame, negated: -(R*v) and -(R*v + p)
unfoldable pub turned_normal : Rows → Vec3 → Vec3
turned_normal r v = record { x = Ieee.neg (dot_right (row_of r 0) v); y = Ieee.neg (dot_right (row_of r 1) v); z = Ieee.neg (dot_right (row_of r 2) v) }

unfoldable pub turned_point : Rows → Vec3 → Vec3 → Vec3
turned_point r p v =
    record { x = Ieee.neg (dot_right (row_of r 0) v ⊕ p.x); y = Ieee.neg (dot_right (row_of r 1) v ⊕ p.y); z = Ieee.neg (dot_right (row_of r 2) v ⊕ p.z) }

unfoldable pub edge_of_b : Rows → Vec3 → HullSize → List Float → List ℕ → ℕ → Edge
edge_of_b r p s n l j =
    let from = turned_point r p (vertex_at s n (origin s l (2 * j))) in
    let to = turned_point r p (vertex_at s n (origin s l (2 * j + 1))) in
    record {
      normal0 = turned_normal r (plane_at s n (face s l (2 * j))).normal;
      normal1 = turned_normal r (plane_at s n (face s l (2 * j + 1))).normal;
      direction = difference_of to from;
      vertex = from;
    }

-- ---- one pair

-- -0.0001: a product at or above it says that the arcs of the two edges do not cross
abbrev pub eps : Float
eps = float 0xb8d1_b717

-- cba = C.dir and dba = D.dir, with C and D the normals of B's edge and dir the direction of A's; adc = n0.DC and bdc = n1.DC the other way round
unfoldable pub passes_of : Float → Float → Float → Float → Bool
passes_of cba dba adc bdc = cond (Ieee.le eps (cba ⊗ dba)) false (cond (Ieee.le eps (adc ⊗ bdc)) false (cond (Ieee.le eps (cba ⊗ bdc)) false true))

-- the tolerance: 0.005
abbrev tol : Float
tol = float 0x3ba3_d70a

-- near parallel: the larger square is at most tol * tol * ((x*x + y*y) + z*z)
unfoldable pub parallel_of : Float → Float → Vec3 → Bool
parallel_of cba dba d = Ieee.le (max_of (cba ⊗ cba) (dba ⊗ dba)) (tol ⊗ tol ⊗ (d.x ⊗ d.x ⊕ d.y ⊗ d.y ⊕ d.z ⊗ d.z))

-- C + t * (D - C)
unfoldable pub between_of : Float → Vec3 → Vec3 → Vec3
between_of t c d = record { x = c.x ⊕ t ⊗ (d.x ⊖ c.x); y = c.y ⊕ t ⊗ (d.y ⊖ c.y); z = c.z ⊕ t ⊗ (d.z ⊖ c.z) }

-- t = -cba / (dba - cba); the vector between C and D at t, times 1 / root of its square
unfoldable pub axis_across_of : Float → Float → Vec3 → Vec3 → Vec3
axis_across_of cba dba c d =
    let n = between_of (Ieee.neg cba ⊘ (dba ⊖ cba)) c d in
    let inv = float 0x3f80_0000 ⊘ root_of (dot_right n n) in
    record { x = n.x ⊗ inv; y = n.y ⊗ inv; z = n.z ⊗ inv }

-- -dot(axis, a + b), with b negated
unfoldable pub edge_separation_of : Vec3 → Vec3 → Vec3 → Float
edge_separation_of axis a b = Ieee.neg (dot_right (sum_of a b) axis)

-- a pair that has passed: unless near parallel, its axis against the best before it; the numbers are those of the half-edges, twice the edges'
unfoldable pub tried_of : ℕ → Float → Float → Edge → Edge → ℕ → ℕ → Lead → Lead
tried_of unit cba dba a b i j lead =
    let axis = axis_across_of cba dba b.normal0 b.normal1 in
    cond (parallel_of cba dba a.direction) lead (better_of unit axis (edge_separation_of axis a.vertex b.vertex) (2 * i) (2 * j) lead)

-- edge i of A and edge j of B
unfoldable pub edge_pair_of : ℕ → Edge → Edge → ℕ → ℕ → Lead → Lead
edge_pair_of unit a b i j lead =
    let cba = dot_right b.normal0 a.direction in
    let dba = dot_right b.normal1 a.direction in
    let adc = dot_right a.normal0 b.direction in
    let bdc = dot_right a.normal1 b.direction in
    cond (passes_of cba dba adc bdc) (tried_of unit cba dba a b i j lead) lead

-- A's edges 0 to n - 1 against B's edge j
unfoldable pub row_pairs : ℕ → (ℕ → Edge) → ℕ → Edge → ℕ → Lead → Lead
row_pairs unit a n b j lead = lead_after (λ i. edge_pair_of unit (a i) b i j) lead n

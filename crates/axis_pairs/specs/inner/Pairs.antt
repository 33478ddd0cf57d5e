-- Inner: what the edge phase keeps in its lists, and what it asks for at each stage. Definitions only; what it finds is `all_pairs`, in specs/All.antt.
use Rattle.std.specs.Prelude.{ℕ, ◌+◌, ◌*◌, ◌<◌, ◌≤◌, List, ◌≡◌, length, Float}
use Rattle.hull_links.specs.declared.HullSize.{HullSize}
use Rattle.hull_links.specs.Links.{origin, face, NumbersFit}
use Rattle.hull.specs.Numbers.{plane_at}
use Rattle.vector.specs.declared.Vec3.{Vec3}
use Rattle.axis_edges.specs.declared.Edge.{Edge}
use Rattle.axis_edges.specs.Edges.{difference_of}
use Rattle.axis_edges.specs.inner.Ready.{EdgesIn}
use Rattle.axis_lists.specs.inner.Lists.{vector_in, Three, Row}

-- edge j of B, its normals and vertices read from lists that have them in A's frame
unfoldable pub edge_in : List Float → List Float → HullSize → List ℕ → ℕ → Edge
edge_in turned points s l j =
    let from = vector_in points (origin s l (2 * j)) in
    let to = vector_in points (origin s l (2 * j + 1)) in
    record {
      normal0 = vector_in turned (face s l (2 * j));
      normal1 = vector_in turned (face s l (2 * j + 1));
      direction = difference_of to from;
      vertex = from;
    }

-- every normal along every direction, in rows of n places
pub record Table (turned : List Float) (faces : ℕ) (g : ℕ → Vec3) (n : ℕ) (table : List Float) : Type 0 where
  pub row : (f : ℕ) → f < faces → Row (vector_in turned f) g n (f * n) table

-- both normals of edge b of B along every direction, from the places p and q on
pub record BothRows (b : Edge) (g : ℕ → Vec3) (n p q : ℕ) (table : List Float) : Type 0 where
  pub row0 : Row b.normal0 g n p table
  pub row1 : Row b.normal1 g n q table

-- what the scan of all edges of B asks for: of hull A, of the lists, and of hull B's links
pub record ScanReady (s : HullSize) (n : List Float) (l : List ℕ) (count : ℕ) (normals turned points : List Float) (t : HullSize) (k : List ℕ)
    (m : ℕ) : Type 0 where
  pub fit : NumbersFit s n
  pub edges_in : EdgesIn s l
  pub few : 2 * count ≤ s.half_edges
  pub normals_stand : Three (λ f. (plane_at s n f).normal) s.faces normals
  pub turned_long : length turned ≡ 384
  pub points_long : length points ≡ 384
  pub other_in : EdgesIn t k
  pub other_few : 2 * m ≤ t.half_edges

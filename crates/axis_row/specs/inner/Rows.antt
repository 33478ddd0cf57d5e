-- Inner: what the scan of one edge of B asks for, and what it tries of the edges of A that have passed. Definitions only; what it answers is
-- `row_pairs`, in the specs of `axis_edges`.
use Rattle.std.specs.Prelude.{ℕ, ◌+◌, ◌*◌, ◌<◌, ◌≤◌, false, List, ◌≡◌, get_or, Float}
use Rattle.std.specs.Float.{nan}
use Rattle.hull_links.specs.declared.HullSize.{HullSize}
use Rattle.hull_links.specs.Links.{NumbersFit}
use Rattle.hull.specs.Numbers.{plane_at}
use Rattle.axis_best.specs.declared.Lead.{Lead}
use Rattle.axis_edges.specs.declared.Edge.{Edge}
use Rattle.axis_edges.specs.Edges.{edge_of_a, tried_of}
use Rattle.axis_edges.specs.inner.Ready.{EdgesIn}
use Rattle.axis_lists.specs.inner.Lists.{Three, Row}

-- edge i of A, which has passed, against edge j of B; the dots of B's two normals stand in the table from p and from q on
unfoldable pub tried_at : ℕ → List Float → ℕ → ℕ → (ℕ → Edge) → Edge → ℕ → ℕ → Lead → Lead
tried_at unit table p q a b j i lead = tried_of unit (get_or table (p + i) nan) (get_or table (q + i) nan) (a i) b i j lead

-- what the scan of one edge of B asks for: of hull A, of the lists, and of the table
pub record RowReady (s : HullSize) (n : List Float) (l : List ℕ) (count : ℕ) (normals : List Float) (b : Edge) (j : ℕ) (start : Lead)
    (table : List Float) (p q : ℕ) : Type 0 where
  pub fit : NumbersFit s n
  pub edges_in : EdgesIn s l
  pub few : 2 * count ≤ s.half_edges
  pub normals_stand : Three (λ f. (plane_at s n f).normal) s.faces normals
  pub low : j < 128
  pub going : start.apart ≡ false
  pub row0 : Row b.normal0 (λ k. (edge_of_a s n l k).direction) count p table
  pub row1 : Row b.normal1 (λ k. (edge_of_a s n l k).direction) count q table

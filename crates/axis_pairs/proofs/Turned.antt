-- The edges of B from the lists are the edges of the definition, so the searches are the same; and what the scan asks for stands. Assumes nothing.
use Prim.Native.Nat.{ℕ, ◌+◌, ◌*◌, ◌/◌, ◌<◌, ◌≤◌}
use mathlib.Core.Path.{◌≡◌, ap, ◌∙◌}
use mathlib.Core.Bool.{false}
use mathlib.Core.List.{List}
use native.Mathlib.Omega.{arith}
use lib.ListN.{length}
use lib.Ieee.{Float}
use Rattle.vector.specs.declared.Vec3.{Vec3}
use Rattle.rotation.specs.Rotation.{Rows}
use Rattle.hull_links.specs.declared.HullSize.{HullSize}
use Rattle.hull_links.specs.Links.{origin, face, NumbersFit}
use Rattle.hull.specs.Numbers.{vertex_at, plane_at}
use Rattle.axis_best.specs.declared.Lead.{Lead}
use Rattle.axis_best.specs.Leads.{none_of, lead_after}
use Rattle.axis_best.proofs.Searches.{goes_on, same_steps}
use Rattle.axis_edges.specs.declared.Edge.{Edge}
use Rattle.axis_edges.specs.Edges.{difference_of, turned_normal, turned_point, edge_of_b, row_pairs}
use Rattle.axis_pairs.specs.All.{all_pairs}
use Rattle.axis_edges.specs.inner.Ready.{EdgesIn}
use Rattle.axis_lists.specs.inner.Lists.{Three}
use Rattle.axis_pairs.specs.inner.Pairs.{edge_in, ScanReady}

abbrev made : Vec3 → Vec3 → Vec3 → Vec3 → Edge
made c d from to = record { normal0 = c; normal1 = d; direction = difference_of to from; vertex = from }

four : {c c' d d' v v' w w' : Vec3} → c ≡ c' → d ≡ d' → v ≡ v' → w ≡ w' → made c d v w ≡ made c' d' v' w'
four {c} {c'} {d} {d'} {v} {v'} {w} {w'} p q r s =
    ap (λ (x : Vec3). made x d v w) p ∙ ap (λ (x : Vec3). made c' x v w) q ∙ ap (λ (x : Vec3). made c' d' x w) r ∙ ap (λ (x : Vec3). made c' d' v' x) s

-- a row's search, under the name that the code has for B's edge
pub row_turn : (unit : ℕ) (a : ℕ → Edge) (n : ℕ) (b x : Edge) (j : ℕ) (s r : Lead) → r ≡ row_pairs unit a n x j s → x ≡ b → r ≡ row_pairs unit a n b j s
row_turn unit a n b x j s r e q = e ∙ ap (λ (y : Edge). row_pairs unit a n y j s) q

-- the search over all rows, one row further
pub rows_turn : (unit : ℕ) (a : ℕ → Edge) (n : ℕ) (b : ℕ → Edge) (j : ℕ) (lead next : Lead) (x : Edge)
    → lead ≡ lead_after (λ i. row_pairs unit a n (b i) i) none_of j → lead.apart ≡ false → next ≡ row_pairs unit a n x j lead → x ≡ b j
    → next ≡ lead_after (λ i. row_pairs unit a n (b i) i) none_of (j + 1)
rows_turn unit a n b j lead next x e g h q =
    goes_on (λ i. row_pairs unit a n (b i) i) none_of j lead next e g (row_turn unit a n (b j) x j lead next h q)

module _ (r : Rows) (p : Vec3) (s : HullSize) (n : List Float) (l : List ℕ) (turned points : List Float) (ok : EdgesIn s l)
    (normals_stand : Three (λ f. turned_normal r (plane_at s n f).normal) s.faces turned)
    (points_stand : Three (λ v. turned_point r p (vertex_at s n v)) s.vertices points) where
  edge_same : (j : ℕ) → 2 * j + 1 < s.half_edges → edge_in turned points s l j ≡ edge_of_b r p s n l j
  unfolding edge_in edge_of_b
  edge_same j h =
      four
      (normals_stand.each (face s l (2 * j)) (ok.face_in (2 * j) (omega (arith, h))))
      (normals_stand.each (face s l (2 * j + 1)) (ok.face_in (2 * j + 1) h))
      (points_stand.each (origin s l (2 * j)) (ok.origin_in (2 * j) (omega (arith, h))))
      (points_stand.each (origin s l (2 * j + 1)) (ok.origin_in (2 * j + 1) h))

  -- all pairs of the first m edges of B
  pub pairs_same : (unit : ℕ) (a : ℕ → Edge) (count m : ℕ) (x : Lead) → x ≡ all_pairs unit a count (edge_in turned points s l) m → 2 * m ≤ s.half_edges
      → x ≡ all_pairs unit a count (edge_of_b r p s n l) m
  unfolding all_pairs
  pairs_same unit a count m x e h =
      e ∙ same_steps (λ j. row_pairs unit a count (edge_in turned points s l j) j) (λ j. row_pairs unit a count (edge_of_b r p s n l j) j) none_of m
      (λ j q t. ap (λ (b : Edge). row_pairs unit a count b j t) (edge_same j (omega (arith, q, h))))

-- what the scan asks for, from what the lists hold
pub scan_ready : (s : HullSize) (n : List Float) (l : List ℕ) (normals turned points : List Float) (t : HullSize) (k : List ℕ) → NumbersFit s n → EdgesIn s l
    → Three (λ f. (plane_at s n f).normal) s.faces normals → length turned ≡ 384 → length points ≡ 384 → EdgesIn t k
    → ScanReady s n l (s.half_edges / 2) normals turned points t k (t.half_edges / 2)
scan_ready s n l normals turned points t k a b c d e f =
    record { fit = a; edges_in = b; few = omega arith; normals_stand = c; turned_long = d; points_long = e; other_in = f; other_few = omega arith }

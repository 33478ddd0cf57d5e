-- What the search finds has numbers in range: its faces are faces of their hulls, its pair of edges half-edges. Assumes nothing.
use Prim.Native.Nat.{ℕ, ◌*◌, ◌<◌}
use mathlib.Core.List.{List}
use native.Mathlib.Omega.{arith}
use lib.Ieee as Ieee
use lib.Ieee.{Float}
use Rattle.bounds.proofs.Laws.{picked}
use Rattle.vector.specs.declared.Vec3.{Vec3}
use Rattle.vector.specs.declared.Transform.{Transform}
use Rattle.rotation.specs.Rotation.{Rows}
use Rattle.hull_links.specs.declared.HullSize.{HullSize}
use Rattle.hull.specs.Accepted.{Accepted}
use Rattle.axis_best.specs.declared.Lead.{Lead}
use Rattle.axis_best.specs.Leads.{none_of, new_best, better_of}
use Rattle.axis_best.proofs.Searches.{holds}
use Rattle.axis_faces.specs.declared.Side.{Side}
use Rattle.axis_faces.specs.Faces.{face_taken_of, face_search_of}
use Rattle.axis_edges.specs.declared.Edge.{Edge}
use Rattle.axis_edges.specs.Edges.{passes_of, parallel_of, tried_of, edge_pair_of, row_pairs, dot_right}
use Rattle.axis_pairs.specs.All.{all_pairs}
use Rattle.axis.specs.Ranges.{EdgeInRange, InRange}
use Rattle.axis.specs.Search.{axis_of, apart_of, edge_of, found_of, search_answer_of, side_of_a, side_of_b, pairs_of, search_of}

-- ---- what every new best keeps, where it holds of its numbers
module _ (P : Lead → Type 0) where
  -- a new best, with its numbers
  abbrev New : ℕ → ℕ → Type 0
  New a b = (unit : ℕ) (normal : Vec3) (separation : Float) → P (new_best unit normal separation a b)

  better_keeps : (unit : ℕ) (normal : Vec3) (separation : Float) (a b : ℕ) (lead : Lead) → New a b → P lead → P (better_of unit normal separation a b lead)
  unfolding better_of
  better_keeps unit normal separation a b lead new p = picked P (Ieee.lt lead.separation separation) (new unit normal separation) p

  -- of the faces of one side: of A's the first number is the face's, of B's the second
  module _ (turn : Rows) (position : Vec3) (s : HullSize) (n : List Float) (t : HullSize) (m : List Float) (none : P none_of) where
    side_a_keeps : ((f v : ℕ) → f < s.faces → New f v) → P (face_search_of Side.A turn position s n t m)
    unfolding face_search_of face_taken_of
    side_a_keeps new = holds P _ none_of s.faces none (λ f h lead p. better_keeps _ _ _ f _ lead (new f _ h) p)

    side_b_keeps : ((f v : ℕ) → f < s.faces → New v f) → P (face_search_of Side.B turn position s n t m)
    unfolding face_search_of face_taken_of
    side_b_keeps new = holds P _ none_of s.faces none (λ f h lead p. better_keeps _ _ _ _ f lead (new f _ h) p)

  pair_keeps : (unit : ℕ) (a : Edge) (b : Edge) (i j : ℕ) (lead : Lead) → New (2 * i) (2 * j) → P lead → P (edge_pair_of unit a b i j lead)
  unfolding edge_pair_of tried_of
  pair_keeps unit a b i j lead new p =
      picked P
      (passes_of (dot_right b.normal0 a.direction) (dot_right b.normal1 a.direction) (dot_right a.normal0 b.direction)
      (dot_right a.normal1 b.direction))
      (picked P (parallel_of (dot_right b.normal0 a.direction) (dot_right b.normal1 a.direction) a.direction) p
      (better_keeps unit _ _ (2 * i) (2 * j) lead new p))
      p

  pairs_keep : (unit : ℕ) (a : ℕ → Edge) (n : ℕ) (b : ℕ → Edge) (m : ℕ) → P none_of → ((i j : ℕ) → i < n → j < m → New (2 * i) (2 * j))
      → P (all_pairs unit a n b m)
  unfolding all_pairs row_pairs
  pairs_keep unit a n b m none new =
      holds P _ none_of m none (λ j h lead p. holds P _ lead n p (λ i g inner q. pair_keeps unit (a i) (b j) i j inner (new i j g h) q))

-- ---- the numbers of an answer
module _ (s t : HullSize) (a b e : Lead) (on_a : a.index_a < s.faces) (on_b : b.index_b < t.faces)
    (on_edges : (e.index_a < s.half_edges) × (e.index_b < t.half_edges)) where
  answer_in_range : InRange s t (search_answer_of a b e)
  unfolding search_answer_of apart_of found_of edge_of axis_of InRange EdgeInRange
  answer_in_range =
      picked (InRange s t) a.apart tt
      (picked (InRange s t) b.apart tt
      (picked (InRange s t) e.apart tt (on_a, on_b, picked (EdgeInRange s t) e.found on_edges tt)))

module _ {s t : HullSize} {n m : List Float} {l k : List ℕ} (x : Transform) (a : Accepted s n l) (b : Accepted t m k) where
  pub in_range : InRange s t (search_of s n l t m k x)
  unfolding search_of side_of_a side_of_b pairs_of
  in_range =
      answer_in_range s t _ _ _
      (side_a_keeps (λ (lead : Lead). lead.index_a < s.faces) _ x.p s n t m (omega (arith, a.numbers_fit.f_low))
      (λ f v h unit normal separation. h))
      (side_b_keeps (λ (lead : Lead). lead.index_b < t.faces) _ x.p t m s n (omega (arith, b.numbers_fit.f_low))
      (λ f v h unit normal separation. h))
      (pairs_keep (λ (lead : Lead). (lead.index_a < s.half_edges) × (lead.index_b < t.half_edges)) _ _ _ _ _
      (omega (arith, a.links_fit.h_low), omega (arith, b.links_fit.h_low)) (λ i j g h unit normal separation. (omega (arith, g), omega (arith, h))))

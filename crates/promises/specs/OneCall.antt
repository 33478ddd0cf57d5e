-- Which source a call has: document 01's section "One call", read for the candidates of its contact. Definitions only; proofs/Points.antt shows of
-- every call that its points are drawn from these candidates and from no others.
use Rattle.std.specs.Prelude.{ℕ, Bool, true, false, cond, List, length, eqb, ℤ, pos, Float, Option, Some, None}
use Rattle.std.specs.Int.Signed.{lt_z}
use Rattle.std.specs.Float.Ieee as Ieee
use Rattle.vector.specs.declared.Transform.{Transform}
use Rattle.vector.specs.Rounded.{◌⊕◌, ◌⊖◌, float}
use Rattle.vector.specs.Scalar.{abs_of}
use Rattle.vector.specs.Arithmetic.{sub_of, neg_of, dot_of}
use Rattle.units.specs.Limits.{slop, speculative}
use Rattle.manifold.specs.declared.SatCache.{SatCache}
use Rattle.hull_links.specs.declared.HullSize.{HullSize}
use Rattle.axis.specs.declared.Axis.{Axis}
use Rattle.axis.specs.declared.Search.{Search}
use Rattle.axis.specs.Search.{search_of}
use Rattle.collide_cached.specs.declared.ridges.Ridge.{Ridge}
use Rattle.collide_cached.specs.Ridges.{ridge_of, carried_ridge, crosses_of, axis_between}
use Rattle.collide_cached.specs.Again.{deepest_below_a, separation_from_a, deepest_below_b, separation_from_b}
use Rattle.promises.specs.Numbers.{number_of}
use Rattle.promises.specs.Sources.{Source, small_capacity, refused, apart, from_face_a, from_face_b, edges, none, places_from, touches, if_touching}
use Rattle.promises.specs.Sources.{separation_from}

-- "face A wins only if strictly above face B"
unfoldable pub winner_of : Axis → Axis → Source
winner_of a b = cond (Ieee.lt b.separation a.separation) (from_face_a a.index_a a.index_b) (from_face_b b.index_b b.index_a)

-- hull A is (s, n, l), hull B is (t, m, k), of one unit, and x places B in A's frame
module _ (s : HullSize) (n : List Float) (l : List ℕ) (t : HullSize) (m : List Float) (k : List ℕ) (x : Transform) where
  -- ---- the full search
  -- "The edge contact is then tried if there is a pair and either no points stand or the edge separation is strictly above the cache's plus slop; it
  -- replaces contact and cache only if it made its one point"
  unfoldable pub tried_over : Source → Axis → Bool
  tried_over face e =
      cond (eqb (length (places_from s n l t m k x face)) 0) true (Ieee.lt (separation_from s n l t m k x face ⊕ slop s.unit) e.separation)

  unfoldable pub or_pair : Source → Option Axis → Source
  or_pair face (Some e) =
      let pair = edges e.normal e.index_a e.index_b in
      cond (tried_over face e) (cond (touches s n l t m k x pair) pair face) face
  or_pair face None = face

  unfoldable pub search_source : Search → Source
  search_source (Search.Apart a) = none apart
  search_source (Search.Found f) = or_pair (if_touching s n l t m k x (winner_of f.face_a f.face_b)) f.edge

  unfoldable pub full_source : Source
  full_source = search_source (search_of s n l t m k x)

  -- ---- the cached axis
  -- "if it touches and the two separations differ by less than slop: hit 1, done"
  unfoldable pub serves : SatCache → Source → Bool
  serves cache source =
      cond (touches s n l t m k x source) (Ieee.lt (abs_of (float cache.separation ⊖ separation_from s n l t m k x source)) (slop s.unit)) false

  -- an axis along which the hulls are apart: "hit 1, no points"; one that serves; "Else full search"
  unfoldable pub cached_source : SatCache → Bool → Source → Source
  cached_source cache is_apart source = cond is_apart (none apart) (cond (serves cache source) source full_source)

  -- "Type 4: the three sign tests, the 0.005 parallel test, then the axis. Strictly above speculative: hit 1, no points. Else as for a face."
  unfoldable pub cached_edges : SatCache → Ridge → Ridge → Source
  cached_edges cache a b =
      let axis = axis_between a b in
      let is_apart = Ieee.lt (speculative s.unit) (dot_of axis (sub_of a.end b.end)) in
      cond (crosses_of a b) (cached_source cache is_apart (edges (neg_of axis) cache.index_a cache.index_b)) full_source

  -- "Type 2 or 3: support vertex and separation of the cached face. At or above speculative: hit 1, no points." All types but 2, 3 and 4: full search
  unfoldable pub work_source : SatCache → Source
  work_source cache =
      let i = cache.index_a in
      let j = cache.index_b in
      let far = speculative s.unit in
      cond (eqb cache.kind 2) (cached_source cache (Ieee.le far (separation_from_a s n t m x i)) (from_face_a i (deepest_below_a s n t m x i)))
      (cond (eqb cache.kind 3) (cached_source cache (Ieee.le far (separation_from_b s n t m x j)) (from_face_b j (deepest_below_b s n t m x j)))
      (cond (eqb cache.kind 4) (cached_edges cache (ridge_of s n l i) (carried_ridge x t m k j))
      full_source))

  -- ---- the call: "capacity below 4 comes first", then the refusals, then the work
  unfoldable pub source_of : ℤ → SatCache → Source
  source_of capacity cache =
      cond (lt_z capacity (pos 4)) (none small_capacity) (cond (eqb (number_of s n l t m k x capacity cache) 0) (work_source cache) (none refused))

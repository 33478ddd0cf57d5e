-- The full search: "cache and count cleared; the axis search .. stops at the first new best strictly above speculative. Otherwise face A wins only if
-- strictly above face B. The edge contact is then tried if there is a pair and either no points stand or the edge separation is strictly above the
-- cache's plus slop; it replaces contact and cache only if it made its one point." Definitions only.
use Rattle.std.specs.Prelude.{ℕ, Bool, true, false, cond, List, eqb, Float, Option, Some, None}
use Rattle.std.specs.Float.Ieee as Ieee
use Rattle.vector.specs.declared.Transform.{Transform}
use Rattle.vector.specs.Rounded.{◌⊕◌, float}
use Rattle.units.specs.Limits.{slop}
use Rattle.manifold.specs.Records.{empty_contact}
use Rattle.hull_links.specs.declared.HullSize.{HullSize}
use Rattle.axis.specs.declared.Axis.{Axis}
use Rattle.axis.specs.declared.AxisApart.{AxisApart}
use Rattle.axis.specs.declared.Search.{Search}
use Rattle.axis.specs.Search.{search_of}
use Rattle.axis.specs.Meaning.{cache_of}
use Rattle.collide_outcome.specs.Builds.{Built}
use Rattle.contacts.specs.Faces.{face_a_of, face_b_of}
use Rattle.contacts.specs.EdgePairs.{edge_contact_of}

-- an axis apart: no points, and the axis in the cache
unfoldable pub apart_built : AxisApart → Built
apart_built a = record { status = 0; touching = false; contact = empty_contact; cache = cache_of a }

-- no points stand, or the pair's separation is strictly above the cache's plus slop
unfoldable pub tries_edge : ℕ → Built → Axis → Bool
tries_edge unit built e = cond (eqb built.contact.count 0) true (Ieee.lt (float built.cache.separation ⊕ slop unit) e.separation)

-- hull A is (s, n, l), hull B is (t, m, k), and x places B in A's frame
module _ (s : HullSize) (n : List Float) (l : List ℕ) (t : HullSize) (m : List Float) (k : List ℕ) (x : Transform) where
  -- the contact of the pair of edges along its axis
  unfoldable pub pair_contact : Axis → Built
  pair_contact e = edge_contact_of s n l t m k x e.normal e.index_a e.index_b

  -- the contact of face A's axis, and of face B's
  unfoldable pub contact_a : Axis → Built
  contact_a a = face_a_of s n l t m k x a.index_a a.index_b

  unfoldable pub contact_b : Axis → Built
  contact_b b = face_b_of s n l t m k x b.index_b b.index_a

  -- face A wins only if strictly above face B
  unfoldable pub winner_contact : Axis → Axis → Built
  winner_contact a b = cond (Ieee.lt b.separation a.separation) (contact_a a) (contact_b b)

  -- the pair's contact is tried, and replaces the face's only if it made its one point
  unfoldable pub instead_of : Built → Axis → Built
  instead_of built e = cond (tries_edge s.unit built e) (cond (pair_contact e).touching (pair_contact e) built) built

  unfoldable pub with_edge : Built → Option Axis → Built
  with_edge built (Some e) = instead_of built e
  with_edge built None = built

  -- a refusal that the face contact met stays one
  unfoldable pub found_contact : Axis → Axis → Option Axis → Built
  found_contact a b edge = cond (eqb (winner_contact a b).status 0) (with_edge (winner_contact a b) edge) (winner_contact a b)

  unfoldable pub after_search : Search → Built
  after_search (Search.Apart a) = apart_built a
  after_search (Search.Found f) = found_contact f.face_a f.face_b f.edge

  unfoldable pub full_of : Built
  full_of = after_search (search_of s n l t m k x)

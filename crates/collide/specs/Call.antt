-- Document 01's section "One call", step by step, and the order of refusals. Definitions only.
use Rattle.std.specs.Prelude.{ℕ, cond, List, eqb, ℤ, pos, Float}
use Rattle.std.specs.Int.Signed.{lt_z}
use Rattle.vector.specs.declared.Transform.{Transform}
use Rattle.manifold.specs.declared.SatCache.{SatCache}
use Rattle.manifold.specs.declared.Answer.{Answer}
use Rattle.manifold.specs.Records.{empty_contact, hit_set}
use Rattle.hull_links.specs.declared.HullSize.{HullSize}
use Rattle.collide_outcome.specs.Served.{Cached}
use Rattle.collide_cached.specs.Again.{cached_face_a_of, cached_face_b_of, cached_edge_of}
use Rattle.collide_full.specs.Full.{full_of}
use Rattle.collide_refusals.specs.Refusals.{refusal_of}
use Rattle.collide_outcome.specs.Answers.{accepted, refused_of, answer_of}

-- hull A is (s, n, l), hull B is (t, m, k), and x places B in A's frame
module _ (s : HullSize) (n : List Float) (l : List ℕ) (t : HullSize) (m : List Float) (k : List ℕ) (x : Transform) where
  -- a cached axis that serves again: hit 1, other cache fields kept; "Else full search." Its type, 2, 3 or 4, is none that is retired
  unfoldable pub after_cached : SatCache → Cached → Answer
  after_cached cache cached =
      cond (eqb cached.status 0)
      (cond cached.hit (accepted 0 cached.contact (hit_set 1 cache)) (answer_of cache (full_of s n l t m k x)))
      (refused_of cached.status cache)

  -- "Type 2 or 3: .. the cached face. Type 4: .." Types 1 and 5 to 255 act as type 0: full search (document 02, j: 6, 7 and 8 too)
  unfoldable pub worked_of : SatCache → Answer
  worked_of cache =
      cond (eqb cache.kind 2) (after_cached cache (cached_face_a_of s n l t m k x cache))
      (cond (eqb cache.kind 3) (after_cached cache (cached_face_b_of s n l t m k x cache))
      (cond (eqb cache.kind 4) (after_cached cache (cached_edge_of s n l t m k x cache))
      (answer_of cache (full_of s n l t m k x))))

  -- "capacity below 4 comes first and is accepted, with no points, the cache untouched, nothing else looked at. Then 1, 2, 3, 4, then .. 5, 6 as the
  -- work meets them." The mark of a retired type "is set only on accepted calls with capacity 4 or more"
  unfoldable pub collide_of : ℤ → SatCache → Answer
  collide_of capacity cache =
      cond (lt_z capacity (pos 4)) (accepted 0 empty_contact cache)
      (cond (eqb (refusal_of s n l t m k x cache) 0) (worked_of cache) (refused_of (refusal_of s n l t m k x cache) cache))

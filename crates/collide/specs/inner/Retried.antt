-- Inner: the axis of the last call tried again, whatever its type. Definitions only.
use Rattle.std.specs.Prelude.{ℕ, cond, List, eqb, Float}
use Rattle.vector.specs.declared.Transform.{Transform}
use Rattle.manifold.specs.declared.SatCache.{SatCache}
use Rattle.hull_links.specs.declared.HullSize.{HullSize}
use Rattle.collide_outcome.specs.Served.{Cached, no_hit}
use Rattle.collide_cached.specs.Again.{cached_face_a_of, cached_face_b_of, cached_edge_of}

-- by the type, where it names an axis; else no hit
unfoldable pub retried_of : HullSize → List Float → List ℕ → HullSize → List Float → List ℕ → Transform → SatCache → Cached
retried_of s n l t m k x cache =
    cond (eqb cache.kind 2) (cached_face_a_of s n l t m k x cache)
    (cond (eqb cache.kind 3) (cached_face_b_of s n l t m k x cache)
    (cond (eqb cache.kind 4) (cached_edge_of s n l t m k x cache)
    (no_hit 0)))

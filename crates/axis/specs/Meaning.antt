-- The answer in document 01's numbers: what an axis apart leaves in the cache. Neither case of the answer is a refusal; what is found becomes a contact
-- (specs of `collide_full`). Definitions only.
use Rattle.std.specs.Float.{binary32}
use Rattle.std.specs.Float.Ieee.{to_bits}
use Rattle.manifold.specs.declared.SatCache.{SatCache}
use Rattle.manifold.specs.Kinds.{kind_number}
use Rattle.axis.specs.declared.AxisApart.{AxisApart}

-- its separation's bits, its type (2, 3 or 4) and its numbers, and no hit
unfoldable pub cache_of : AxisApart → SatCache
cache_of a = record { separation = to_bits binary32 a.separation; kind = kind_number a.kind; index_a = a.index_a; index_b = a.index_b; hit = 0 }

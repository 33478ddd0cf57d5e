-- The records with nothing in them: "Places at or above the count are zero, and so is the normal when the count is 0"; of a point that is not there
-- the candidate's place is 255 (document 02, d: "unused places 255"). Definitions only.
use Rattle.std.specs.Prelude.{ℕ, replicate}
use Rattle.std.specs.Float.{nan}
use Rattle.vector.specs.Rounded.{float}
use Rattle.vector.specs.Arithmetic.{zero_vec}
use Rattle.vector.specs.Shape.{past_vec}
use Rattle.manifold.specs.declared.FeaturePair.{FeaturePair}
use Rattle.manifold.specs.declared.ClipVertex.{ClipVertex}
use Rattle.manifold.specs.declared.Point.{Point}
use Rattle.manifold.specs.declared.Contact.{Contact}
use Rattle.manifold.specs.declared.SatCache.{SatCache}

abbrev pub zero_pair : FeaturePair
zero_pair = record { owner1 = 0; index1 = 0; owner2 = 0; index2 = 0 }

abbrev pub zero_vertex : ClipVertex
zero_vertex = record { position = zero_vec; separation = float 0; pair = zero_pair }

-- no point
abbrev pub unused_point : Point
unused_point = record { position = zero_vec; separation = float 0; pair = zero_pair; place = 255 }

-- no points, a zero normal
abbrev pub empty_contact : Contact
empty_contact = record { points = replicate 4 unused_point; normal = zero_vec; count = 0 }

-- the cache cleared
abbrev pub empty_cache : SatCache
empty_cache = record { separation = 0; kind = 0; index_a = 0; index_b = 0; hit = 0 }

-- the cache as it is but for its hit
abbrev pub hit_set : ℕ → SatCache → SatCache
hit_set hit c = record { separation = c.separation; kind = c.kind; index_a = c.index_a; index_b = c.index_b; hit = hit }

-- what the logic's `get_or` finds past the end of an array of corners, and of points
abbrev pub past_vertex : ClipVertex
past_vertex = record { position = past_vec; separation = nan; pair = zero_pair }

abbrev pub past_point : Point
past_point = record { position = past_vec; separation = nan; pair = zero_pair; place = 0 }

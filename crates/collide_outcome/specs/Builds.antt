-- What a contact that is built leaves: itself, whether the hulls touch, and the next cache. Definitions only.
use Rattle.std.specs.Prelude.{ℕ, Bool, true, false, Float}
use Rattle.std.specs.Float.{binary32}
use Rattle.std.specs.Float.Ieee.{to_bits}
use Rattle.manifold.specs.declared.SatCache.{SatCache}
use Rattle.manifold.specs.declared.Contact.{Contact}
use Rattle.manifold.specs.Records.{empty_contact, empty_cache}

-- a status of 0 or the number of the refusal that the work met, whether the hulls touch, the contact and the next cache
pub record Built : Type 0 where
  pub contact : Contact
  pub cache : SatCache
  pub status : ℕ
  pub touching : Bool

-- the axis of this type, with its separation's bits and its numbers, and no hit
abbrev pub axis_cache : Float → ℕ → ℕ → ℕ → SatCache
axis_cache separation kind a b = record { separation = to_bits binary32 separation; kind = kind; index_a = a; index_b = b; hit = 0 }

-- they touch
unfoldable pub touched_of : Contact → Float → ℕ → ℕ → ℕ → Built
touched_of contact separation kind a b = record { status = 0; touching = true; contact = contact; cache = axis_cache separation kind a b }

-- "not touching, cache cleared"
abbrev pub missed : Built
missed = record { status = 0; touching = false; contact = empty_contact; cache = empty_cache }

-- a refusal met on the way; whoever answers with it leaves the lent cache as it is
abbrev pub refused_at : ℕ → Built
refused_at n = record { status = n; touching = false; contact = empty_contact; cache = empty_cache }

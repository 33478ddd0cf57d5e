-- What is built anew for a cached axis: "if it touches and the two separations differ by less than slop: hit 1, done, other cache fields kept. Else
-- full search." Definitions only.
use Rattle.std.specs.Prelude.{ℕ, Bool, true, false, cond, eqb}
use Rattle.std.specs.Float.Ieee as Ieee
use Rattle.vector.specs.Rounded.{◌⊖◌, float}
use Rattle.vector.specs.Scalar.{abs_of}
use Rattle.units.specs.Limits.{slop}
use Rattle.manifold.specs.declared.SatCache.{SatCache}
use Rattle.manifold.specs.declared.Contact.{Contact}
use Rattle.manifold.specs.Records.{empty_contact}
use Rattle.collide_outcome.specs.Builds.{Built}

-- a hit, with the contact that comes of it; else the full search has to be made, or the work met a refusal, whose number is the status
pub record Cached : Type 0 where
  pub contact : Contact
  pub status : ℕ
  pub hit : Bool

-- a hit with this contact; no hit, with the refusal that was met or 0
abbrev pub hit_with : Contact → Cached
hit_with contact = record { status = 0; hit = true; contact = contact }

abbrev pub no_hit : ℕ → Cached
no_hit status = record { status = status; hit = false; contact = empty_contact }

-- the two separations differ by less than slop
unfoldable pub near_of : ℕ → SatCache → SatCache → Bool
near_of unit cache fresh = Ieee.lt (abs_of (float cache.separation ⊖ float fresh.separation)) (slop unit)

-- a hit where it touches and the separations are near; a refusal that the work met stays one
unfoldable pub served_of : ℕ → SatCache → Built → Cached
served_of unit cache built =
    cond (eqb built.status 0)
    (cond built.touching (cond (near_of unit cache built.cache) (hit_with built.contact) (no_hit 0)) (no_hit 0))
    (no_hit built.status)

-- The best axis so far: "strictly greater for a new best", and the search "stops at the first new best strictly above speculative". Definitions only.
use Rattle.std.specs.Prelude.{Bool, true, false, cond, ℕ, zero, suc, Float}
use Rattle.std.specs.Float.Ieee as Ieee
use Rattle.vector.specs.declared.Vec3.{Vec3}
use Rattle.vector.specs.Rounded.{float, ◌⊘◌}
use Rattle.vector.specs.Arithmetic.{zero_vec}
use Rattle.units.specs.Limits.{speculative}
use Rattle.axis_best.specs.declared.Lead.{Lead}

-- minus infinity, as -1 / 0
abbrev pub lowest : Float
lowest = Ieee.neg (float 0x3f80_0000) ⊘ float 0

-- nothing found
abbrev pub none_of : Lead
none_of = record { found = false; apart = false; normal = zero_vec; separation = lowest; index_a = 0; index_b = 0 }

-- a new best strictly above speculative stops the search
unfoldable pub stops_of : ℕ → Float → Bool
stops_of unit separation = Ieee.lt (speculative unit) separation

-- the lead that a new best has
abbrev pub new_best : ℕ → Vec3 → Float → ℕ → ℕ → Lead
new_best unit normal separation a b =
    record { found = true; apart = stops_of unit separation; normal = normal; separation = separation; index_a = a; index_b = b }

-- a new best is strictly greater
unfoldable pub better_of : ℕ → Vec3 → Float → ℕ → ℕ → Lead → Lead
better_of unit normal separation a b lead = cond (Ieee.lt lead.separation separation) (new_best unit normal separation a b) lead

-- what the steps 0 to n - 1 make of a lead; a search that has stopped stays as it is
unfoldable pub lead_after : (ℕ → Lead → Lead) → Lead → ℕ → Lead
lead_after step lead zero = lead
lead_after step lead (suc n) = cond (lead_after step lead n).apart (lead_after step lead n) (step n (lead_after step lead n))

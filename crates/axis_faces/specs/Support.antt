-- "Support: value = bias - dot, its low seven bits replaced by the vertex number; smallest of four lanes, then across lanes." The sums of the lanes
-- go from z to x. Definitions only.
use Rattle.std.specs.Prelude.{ℕ, zero, suc, ◌+◌, ◌*◌, ◌/◌, List, Float}
use Rattle.vector.specs.declared.Vec3.{Vec3}
use Rattle.vector.specs.Rounded.{◌⊕◌, ◌⊖◌, ◌⊗◌}
use Rattle.lanes.specs.declared.FloatW.{FloatW}
use Rattle.lanes.specs.Lanes.{embed_w_of, least_w_of, min_index_of}
use Rattle.units.specs.Limits.{huge}
use Rattle.hull_links.specs.declared.HullSize.{HullSize}
use Rattle.hull.specs.Numbers.{vertex_at}

-- bias - (z + (y + x))
unfoldable pub support_value_of : Float → Vec3 → Vec3 → Float
support_value_of bias d v = bias ⊖ (d.z ⊗ v.z ⊕ (d.y ⊗ v.y ⊕ d.x ⊗ v.x))

-- the values of the four vertices from base on, padding among them, each with its vertex's number
unfoldable pub group_of : Float → Vec3 → HullSize → List Float → ℕ → FloatW
group_of bias d s n base =
    embed_w_of
    (record {
      x = support_value_of bias d (vertex_at s n base);
      y = support_value_of bias d (vertex_at s n (base + 1));
      z = support_value_of bias d (vertex_at s n (base + 2));
      w = support_value_of bias d (vertex_at s n (base + 3));
    })
    base

-- one number in every lane
unfoldable pub splat_of : Float → FloatW
splat_of x = record { x = x; y = x; z = x; w = x }

-- the least of each lane over the first g groups of four, from the starting value on
unfoldable pub least_lanes : Float → Vec3 → HullSize → List Float → ℕ → FloatW
least_lanes bias d s n zero = splat_of (huge s.unit)
least_lanes bias d s n (suc g) = least_w_of (least_lanes bias d s n g) (group_of bias d s n (4 * g))

-- the number that the least across lanes carries: a vertex's, or a padding lane's (proofs/Lanes.antt). Low bits of the starting value are 0, but at unit
-- 1000, where they say 32: there it is above every value
unfoldable pub support_of : Float → Vec3 → HullSize → List Float → ℕ
support_of bias d s n = min_index_of (least_lanes bias d s n ((s.vertices + 3) / 4))

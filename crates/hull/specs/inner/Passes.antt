-- Inner: what two passes of the code over the numbers answer. Definitions only.
use Rattle.std.specs.Prelude.{Bool, List, ℕ, ◌+◌, ◌-◌, ◌*◌, Float}
use Rattle.hull_links.specs.declared.HullSize.{HullSize}
use Rattle.hull_links.specs.Tests.{◌&◌, all}
use Rattle.hull_links.specs.Links.{padded}
use Rattle.hull_limits.specs.Measures.{within_limit}
use Rattle.units.specs.Limits.{coordinate_limit}
use Rattle.hull.specs.Numbers.{number_at}

-- number i past `from` is within the limit
unfoldable pub small_from : Float → List Float → ℕ → ℕ → Bool
small_from limit n from i = within_limit limit (number_at n (from + i))

-- the padding of the x, the y and the z list is within that of coordinates
unfoldable pub padding_small : HullSize → List Float → Bool
padding_small s n =
    let limit = coordinate_limit s.unit in
    all (small_from limit n (6 + s.vertices)) (padded s - s.vertices)
    & all (small_from limit n (6 + padded s + s.vertices)) (padded s - s.vertices)
    & all (small_from limit n (6 + 2 * padded s + s.vertices)) (padded s - s.vertices)

-- The rule of a transform, a test that computes, and what an accepted transform gives to whoever works with it. Definitions only; proofs/Placed.antt
-- shows the second from the first. Bounds are stated at the largest unit, 1000 a metre: positions within 2 ^ 22.
use Rattle.std.specs.Prelude.{Bool, true, ◌≡◌, ℕ}
use Rattle.std.specs.Float.Ieee.Scale.{finite}
use Rattle.bounds.specs.Bound.{Below}
use Rattle.bounds.specs.Squares.{squares4}
use Rattle.hull_links.specs.Tests.{◌&◌}
use Rattle.vector.specs.declared.Transform.{Transform}
use Rattle.vector.specs.Bounded.{VecBelow}
use Rattle.units.specs.Limits.{coordinate_limit}
use Rattle.hull_limits.specs.Measures.{within_limit, near_one}

-- A transform is accepted when all is finite, its position is within 4096 (times the unit) on each axis and the squares of its quaternion sum to 0.99 to
-- 1.01.
unfoldable pub transform_right : ℕ → Transform → Bool
transform_right unit t =
    finite t.p.x & finite t.p.y & finite t.p.z & finite t.q.v.x & finite t.q.v.y & finite t.q.v.z & finite t.q.s
    & (within_limit (coordinate_limit unit) t.p.x & within_limit (coordinate_limit unit) t.p.y & within_limit (coordinate_limit unit) t.p.z)
    & near_one (squares4 t.q.v.x t.q.v.y t.q.v.z t.q.s)

-- Its position, and the vector and the scalar of its quaternion, are bounded, and the quaternion is near length 1.
pub record Placed (t : Transform) : Type 0 where
  pub turn_unit : near_one (squares4 t.q.v.x t.q.v.y t.q.v.z t.q.s) ≡ true
  pub position_below : VecBelow 22 t.p
  pub turn_below : VecBelow 1 t.q.v
  pub scalar_below : Below 1 t.q.s

-- The tests of document 01's H8 against a limit, on one number, point or plane: tests that compute. Definitions only; the rule itself, which names the
-- limits, is in the specs of `hull`.
use Rattle.std.specs.Prelude.{Bool, Float}
use Rattle.std.specs.Float.{binary32}
use Rattle.std.specs.Float.Ieee.{le, neg, of_bits, sub}
use Rattle.bounds.specs.Squares.{squares3}
use Rattle.hull_links.specs.Tests.{◌&◌, ◌or◌}
use Rattle.vector.specs.declared.Vec3.{Vec3}
use Rattle.vector.specs.declared.Plane.{Plane}
use Rattle.vector.specs.declared.Aabb.{Aabb}

-- from lo to hi, ends inside; a NaN is not
unfoldable pub inside : Float → Float → Float → Bool
inside lo hi x = le lo x & le x hi

-- within the limit either way
unfoldable pub within_limit : Float → Float → Bool
within_limit limit x = inside (neg limit) limit x

-- from the binary32 number nearest 0.99 to the one nearest 1.01
unfoldable pub near_one : Float → Bool
near_one x = inside (of_bits binary32 0x3f7d_70a4) (of_bits binary32 0x3f81_47ae) x

-- the rounded difference is the limit or more either way
unfoldable pub apart : Float → Float → Float → Bool
apart limit a b = le limit (sub binary32 b a) or le (sub binary32 b a) (neg limit)

-- a vertex inside the box
unfoldable pub in_box : Aabb → Vec3 → Bool
in_box b v =
    inside b.lower.x b.upper.x v.x & inside b.lower.y b.upper.y v.y & inside b.lower.z b.upper.z v.z

-- the offset within the limit, the sum of squares of the normal 0.99 to 1.01
unfoldable pub plane_right : Float → Plane → Bool
plane_right limit p = near_one (squares3 p.normal.x p.normal.y p.normal.z) & within_limit limit p.offset

-- the ends of an edge: some coordinate's rounded difference is the limit or more either way
unfoldable pub ends_apart : Float → Vec3 → Vec3 → Bool
ends_apart limit a b = apart limit a.x b.x or apart limit a.y b.y or apart limit a.z b.z

-- Planes, boxes and support points. Provisional readings. Definitions only.
use Rattle.std.specs.Prelude.{ℕ, zero, suc, ◌≤◌, ◌<◌, cond, List, length, get_or, Float}
use Rattle.std.specs.Float.Ieee as Ieee
use Rattle.std.specs.Float.{nan}
use Rattle.vector.specs.declared.Vec3.{Vec3}
use Rattle.vector.specs.declared.Plane.{Plane}
use Rattle.vector.specs.declared.Aabb.{Aabb}
use Rattle.vector.specs.declared.shape.Farthest.{Farthest}
use Rattle.vector.specs.Rounded.{◌⊖◌, float}
use Rattle.vector.specs.Arithmetic.{add_of, sub_of, dot_of, mul_sv_of}

-- normal·p - offset
unfoldable pub plane_separation_of : Plane → Vec3 → Float
plane_separation_of plane p = dot_of plane.normal p ⊖ plane.offset

-- (n, n·p)
unfoldable pub plane_of : Vec3 → Vec3 → Plane
plane_of n p = record { normal = n; offset = dot_of n p }

abbrev half : Float
half = float 0x3f00_0000

-- mul_sv(0.5, add(lower, upper)), mul_sv(0.5, sub(upper, lower))
unfoldable pub center_of : Aabb → Vec3
center_of b = mul_sv_of half (add_of b.lower b.upper)

unfoldable pub extents_of : Aabb → Vec3
extents_of b = mul_sv_of half (sub_of b.upper b.lower)

-- what stands past the end of an array of vectors, for the logic's `get_or`
abbrev pub past_vec : Vec3
past_vec = record { x = nan; y = nan; z = nan }

-- the lowest-numbered of two points with the largest point·d
unfoldable pub point_support_of : List Vec3 → Vec3 → ℕ
point_support_of points d = cond (Ieee.lt (dot_of (get_or points 0 past_vec) d) (dot_of (get_or points 1 past_vec) d)) 1 0

-- vertex k, whose coordinates stand in three lists
abbrev pub vertex_in : List Float → List Float → List Float → ℕ → Vec3
vertex_in xs ys zs k = record { x = get_or xs k nan; y = get_or ys k nan; z = get_or zs k nan }

-- vertex i, value far along the direction, takes the place of the best before it where it lies strictly farther
unfoldable pub farther_of : Farthest → ℕ → Float → Farthest
farther_of best i value = cond (Ieee.lt best.value value) (record { vertex = i; value = value }) best

-- the best of the first n vertices, from vertex 0 on
unfoldable pub farthest_of : List Float → List Float → List Float → Vec3 → ℕ → Farthest
farthest_of xs ys zs d zero = record { vertex = 0; value = dot_of d (vertex_in xs ys zs 0) }
farthest_of xs ys zs d (suc n) = farther_of (farthest_of xs ys zs d n) n (dot_of d (vertex_in xs ys zs n))

-- the lowest-numbered of the first n vertices with the largest d·vertex
unfoldable pub support_vertex_of : List Float → List Float → List Float → ℕ → Vec3 → ℕ
support_vertex_of xs ys zs n d = (farthest_of xs ys zs d n).vertex

-- the three lists hold n vertices, and there is one at least
pub record Lists (xs ys zs : List Float) (n : ℕ) : Type 0 where
  pub some : 0 < n
  pub in_x : n ≤ length xs
  pub in_y : n ≤ length ys
  pub in_z : n ≤ length zs

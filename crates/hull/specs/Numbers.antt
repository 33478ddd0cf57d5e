-- The numbers of a hull, one list: the box, low x y z and high x y z; the x, the y and the z list, each padded to a multiple of four; then normal x y
-- z and offset of each face. Definitions only.
use Rattle.std.specs.Prelude.{List, ℕ, ◌+◌, ◌*◌, get_or, take, drop, Float}
use Rattle.std.specs.Float.{nan}
use Rattle.hull_links.specs.declared.HullSize.{HullSize}
use Rattle.hull_links.specs.Links.{padded, planes_from}
use Rattle.vector.specs.declared.Vec3.{Vec3}
use Rattle.vector.specs.declared.Plane.{Plane}
use Rattle.vector.specs.declared.Aabb.{Aabb}
use Rattle.vector.specs.Shape.{support_vertex_of}

-- number i
abbrev pub number_at : List Float → ℕ → Float
number_at n i = get_or n i nan

unfoldable pub box_of : List Float → Aabb
box_of n = record {
  lower = record { x = number_at n 0; y = number_at n 1; z = number_at n 2 };
  upper = record { x = number_at n 3; y = number_at n 4; z = number_at n 5 };
}

-- vertex v; from V on, padding
unfoldable pub vertex_at : HullSize → List Float → ℕ → Vec3
vertex_at s n v = record { x = number_at n (6 + v); y = number_at n (6 + padded s + v); z = number_at n (6 + 2 * padded s + v) }

-- the plane of face f
unfoldable pub plane_at : HullSize → List Float → ℕ → Plane
plane_at s n f = record {
  normal = record { x = number_at n (planes_from s + 4 * f); y = number_at n (planes_from s + 4 * f + 1); z = number_at n (planes_from s + 4 * f + 2) };
  offset = number_at n (planes_from s + 4 * f + 3);
}

-- the list of coordinates that begins at number `from`, padding and all
abbrev pub list_from : HullSize → List Float → ℕ → List Float
list_from s n from = take (padded s) (drop from n)

-- the vertex that `find_hull_support_vertex` finds in the x, the y and the z list
unfoldable pub support_at : HullSize → List Float → Vec3 → ℕ
support_at s n d = support_vertex_of (list_from s n 6) (list_from s n (6 + padded s)) (list_from s n (6 + 2 * padded s)) s.vertices d

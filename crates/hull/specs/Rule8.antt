-- H8 of document 01, the rule of a hull's numbers, and the first broken rule: tests that compute. Definitions only; what holds of one number, point
-- or plane is in the specs of `hull_limits`.
use Rattle.std.specs.Prelude.{Bool, List, [], ◌∷◌, ℕ, ◌+◌, ◌*◌, ◌/◌, length, Float}
use Rattle.std.specs.Float.Ieee.Scale.{finite}
use Rattle.units.specs.Limits.{coordinate_limit, offset_limit, edge_limit}
use Rattle.hull_links.specs.declared.HullSize.{HullSize}
use Rattle.hull_links.specs.Tests.{◌&◌, all, first_broken}
use Rattle.hull_links.specs.Links.{planes_from, origin}
use Rattle.hull_links.specs.Rules.{h1, h2, h3, h4, h5, h6, h7}
use Rattle.hull_shell.specs.Shell.{h9}
use Rattle.hull_limits.specs.Measures.{within_limit, in_box, plane_right, ends_apart}
use Rattle.hull.specs.Numbers.{number_at, box_of, vertex_at, plane_at}

-- H8. All floats finite.
unfoldable pub finite_at : List Float → ℕ → Bool
finite_at n i = finite (number_at n i)

-- Coordinates, padding and box within 4096 either way, times the hull's own unit, as are the other two limits;
unfoldable pub small_at : HullSize → List Float → ℕ → Bool
small_at s n i = within_limit (coordinate_limit s.unit) (number_at n i)

-- every vertex inside the box.
unfoldable pub vertex_in_box : HullSize → List Float → ℕ → Bool
vertex_in_box s n v = in_box (box_of n) (vertex_at s n v)

-- Offsets within 8192. The sum of squares of each normal is 0.99 to 1.01.
unfoldable pub plane_right_at : HullSize → List Float → ℕ → Bool
plane_right_at s n f = plane_right (offset_limit s.unit) (plane_at s n f)

-- For every edge some coordinate's rounded difference between its ends is 1/1024 or more either way.
unfoldable pub edge_long : HullSize → List Float → List ℕ → ℕ → Bool
edge_long s n l k = ends_apart (edge_limit s.unit) (vertex_at s n (origin s l (2 * k))) (vertex_at s n (origin s l (2 * k + 1)))

unfoldable pub h8 : HullSize → List Float → List ℕ → Bool
h8 s n l =
    all (finite_at n) (length n)
    & all (small_at s n) (planes_from s)
    & all (vertex_in_box s n) s.vertices
    & all (plane_right_at s n) s.faces
    & all (edge_long s n l) (s.half_edges / 2)

-- The first broken rule is the validator's answer, 0 if none.
unfoldable pub broken_rule : HullSize → List Float → List ℕ → ℕ
broken_rule s n l = first_broken 1 (h1 s n l ∷ h2 s l ∷ h3 s l ∷ h4 s l ∷ h5 s l ∷ h6 s l ∷ h7 s l ∷ h8 s n l ∷ h9 s l ∷ [])

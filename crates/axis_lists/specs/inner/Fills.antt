-- Inner: a stretch of a list filled from a function, and what the five loops put there. Definitions only.
use Rattle.std.specs.Prelude.{ℕ, ◌+◌, ◌*◌, ◌<◌, List, ◌≡◌, length, get_or, Float}
use Rattle.std.specs.Float.Ieee as Ieee
use Rattle.std.specs.Float.{nan}
use Rattle.vector.specs.declared.Vec3.{Vec3}
use Rattle.vector.specs.Rounded.{◌⊕◌, ◌⊖◌, ◌⊗◌}
use Rattle.hull_links.specs.declared.HullSize.{HullSize}
use Rattle.hull_links.specs.Links.{origin}
use Rattle.hull.specs.Numbers.{vertex_at, plane_at}
use Rattle.axis_edges.specs.Edges.{dot_right}

-- `is` is as long as `was` and keeps what stood before the place at; from there on it has g 0, .., g (n - 1)
pub record Filled (g : ℕ → Float) (at n : ℕ) (was is : List Float) : Type 0 where
  pub long : length is ≡ length was
  pub kept : (k : ℕ) → k < at → get_or is k nan ≡ get_or was k nan
  pub made : (k : ℕ) → k < n → get_or is (at + k) nan ≡ g k

-- the same with what stands there told by a relation: at the place at + k something that r relates to k
pub record Given (r : ℕ → Float → Type 0) (at n : ℕ) (old new : List Float) : Type 0 where
  pub long : length new ≡ length old
  pub kept : (k : ℕ) → k < at → get_or new k nan ≡ get_or old k nan
  pub made : (k : ℕ) → k < n → r k (get_or new (at + k) nan)

-- the difference of the ends of edge k, in the list of coordinates that starts at from
abbrev pub difference_at : List Float → List ℕ → HullSize → ℕ → ℕ → Float
difference_at xs l s from k = get_or xs (from + origin s l (2 * k + 1)) nan ⊖ get_or xs (from + origin s l (2 * k)) nan

-- a normal turned by one row of the rotation, negated; a vertex likewise, and moved
abbrev pub turned_normal_at : Vec3 → HullSize → List Float → ℕ → Float
turned_normal_at row s xs f = Ieee.neg (dot_right row (plane_at s xs f).normal)

abbrev pub turned_point_at : Vec3 → Float → HullSize → List Float → ℕ → Float
turned_point_at row shift s xs v = Ieee.neg (dot_right row (vertex_at s xs v) ⊕ shift)

-- one coordinate of a normal
abbrev pub normal_at : List Float → ℕ → ℕ → Float
normal_at xs from k = get_or xs (from + 4 * k) nan

-- one vector along vector k of three lists
abbrev pub dot_at : Vec3 → List Float → ℕ → Float
dot_at v xs k = v.x ⊗ get_or xs k nan ⊕ (v.y ⊗ get_or xs (128 + k) nan ⊕ v.z ⊗ get_or xs (256 + k) nan)

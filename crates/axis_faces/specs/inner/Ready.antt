-- Inner: what the face phase asks for, so that every float that it works out is finite and below the largest starting value. Acceptance of both hulls and of
-- the transform gives it.
-- Definitions only. Bounds are stated at the largest unit, 1000 a metre; those of `Within` are counted in units of 2 ^ -16.
use Rattle.std.specs.Prelude.{ℕ, ◌<◌, List, ◌≡◌, T, Float}
use Rattle.std.specs.Float.Ieee.{le}
use Rattle.bounds.specs.Bound.{Below}
use Rattle.bounds.specs.Squares.{squares3}
use Rattle.bounds.specs.Within.{Within}
use Rattle.vector.specs.declared.Vec3.{Vec3}
use Rattle.vector.specs.Rounded.{float}
use Rattle.vector.specs.Bounded.{VecBelow}
use Rattle.vector.specs.Within.{VecWithin}
use Rattle.vector.specs.Shape.{center_of, extents_of}
use Rattle.rotation.specs.Rotation.{Rows}
use Rattle.rotation.specs.Within.{RowsWithin}
use Rattle.hull_links.specs.declared.HullSize.{HullSize}
use Rattle.hull_links.specs.Links.{padded, NumbersFit}
use Rattle.hull.specs.Numbers.{box_of, vertex_at, plane_at}

-- of the support search
pub record SupportReady (bias : Float) (d : Vec3) (s : HullSize) (n : List Float) : Type 0 where
  pub fit : NumbersFit s n
  pub bias_within : Within 1980000 21 bias
  pub direction_within : VecWithin 5 15 d
  pub vertices_within : (v : ℕ) → v < padded s → VecWithin 4000 26 (vertex_at s n v)

-- of hull (s, n), whose faces are tried, and of hull (t, m), whose vertices are
module _ (turn : Rows) (position : Vec3) (s : HullSize) (n : List Float) (t : HullSize) (m : List Float) where
  pub record Facing : Type 0 where
    pub fit : NumbersFit s n
    pub other_fit : NumbersFit t m
    pub turn_within : RowsWithin 5 14 turn
    pub position_below : VecBelow 22 position
    pub normals_below : (f : ℕ) → f < s.faces → VecBelow 1 (plane_at s n f).normal
    pub normals_unit : (f : ℕ) → f < s.faces → T (le (squares3 (plane_at s n f).normal.x (plane_at s n f).normal.y (plane_at s n f).normal.z)
        (float 0x3f81_47ae))
    pub offsets_below : (f : ℕ) → f < s.faces → Below 23 (plane_at s n f).offset
    pub vertices_within : (v : ℕ) → v < padded t → VecWithin 4000 26 (vertex_at t m v)
    pub lower_within : VecWithin 4000 26 (box_of m).lower
    pub upper_within : VecWithin 4000 26 (box_of m).upper

  -- the same, with the middle and the half-sizes of the other hull's box, which are worked out once for all faces
  pub record FacesReady (center extents : Vec3) : Type 0 where
    pub facing : Facing
    pub center_is : center ≡ center_of (box_of m)
    pub extents_is : extents ≡ extents_of (box_of m)

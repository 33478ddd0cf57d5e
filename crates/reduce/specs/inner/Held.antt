-- Inner: the positions of images, held beside their candidates. Definitions only.
use Rattle.std.specs.Prelude.{ℕ, ◌+◌, ◌≤◌, ◌<◌, ◌≡◌, List, get_or, set, Float}
use Rattle.std.specs.Float.{nan}
use Rattle.vector.specs.declared.Vec3.{Vec3}
use Rattle.manifold.specs.declared.ClipVertex.{ClipVertex}
use Rattle.clip_corners.specs.Places.{corner_in}
use Rattle.reduce_scores.specs.Images.{image_of, images_in}
use Rattle.reduce.specs.declared.positions.Positions.{Positions}
use Rattle.reduce.specs.declared.held.Images.{Images}

-- position i
abbrev pub position_in : Positions → ℕ → Vec3
position_in h i = record { x = get_or h.x i nan; y = get_or h.y i nan; z = get_or h.z i nan }

-- position i becomes p
pub record Put (h : Positions) (i : ℕ) (p : Vec3) (h' : Positions) : Type 0 where
  pub x_is : h'.x ≡ set h.x i p.x
  pub y_is : h'.y ≡ set h.y i p.y
  pub z_is : h'.z ≡ set h.z i p.z

-- a candidate at another position
abbrev pub moved : Vec3 → ClipVertex → ClipVertex
moved p v = record { position = p; separation = v.separation; pair = v.pair }

-- the positions of the images of the k candidates from corner p on stand in h
pub record Held (normal : Vec3) (n : List Float) (t : List ℕ) (p k : ℕ) (h : Positions) : Type 0 where
  pub held_image : (i : ℕ) → i < k → position_in h i ≡ (image_of normal (corner_in n t (p + i))).position

-- these are images, and their positions are held
abbrev pub images_of : Images → List ClipVertex
images_of i = images_in i.normal i.corners.now.numbers i.corners.now.tags i.from i.n

pub record Holds (i : Images) : Type 0 where
  pub low : i.from ≤ 64
  pub few : i.n ≤ 64
  pub held : Held i.normal i.corners.now.numbers i.corners.now.tags i.from i.n i.positions.now

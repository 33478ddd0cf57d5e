-- "A candidate's image is its position less half its separation along the reference normal, with its separation and pair" and "Fewer than 3 left, or
-- least separation at or above speculative: not touching". Definitions only.
use Rattle.std.specs.Prelude.{ℕ, Bool, true, false, cond, List, map, length, get_or, ltb, Float}
use Rattle.std.specs.Float.Ieee as Ieee
use Rattle.vector.specs.declared.Vec3.{Vec3}
use Rattle.vector.specs.Rounded.{float, ◌⊗◌}
use Rattle.vector.specs.Scalar.{min_of}
use Rattle.vector.specs.Arithmetic.{mul_sub_of}
use Rattle.manifold.specs.declared.ClipVertex.{ClipVertex}
use Rattle.manifold.specs.Records.{past_vertex}
use Rattle.manifold.specs.Polygons.{turns}
use Rattle.clip_corners.specs.Places.{corners_in}

-- the image of a candidate
unfoldable pub image_of : Vec3 → ClipVertex → ClipVertex
image_of normal v = record { position = mul_sub_of v.position (float 0x3f00_0000 ⊗ v.separation) normal; separation = v.separation; pair = v.pair }

-- the images of the k candidates from corner p on
abbrev pub images_in : Vec3 → List Float → List ℕ → ℕ → ℕ → List ClipVertex
images_in normal n t p k = map (image_of normal) (corners_in n t p k)

-- the largest float
abbrev pub largest : Float
largest = float 0x7f7f_ffff

-- the least separation, from the largest float on
unfoldable pub least_separation_of : List ClipVertex → Float
least_separation_of l = turns (λ (least : Float) (i : ℕ). min_of least (get_or l i past_vertex).separation) largest (length l)

-- fewer than 3 do not touch, and none at or above `far`, the speculative distance, do
unfoldable pub touching_of : Float → ℕ → Float → Bool
touching_of far count least = cond (ltb count 3) false (cond (Ieee.le far least) false true)

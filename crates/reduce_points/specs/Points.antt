-- The contact with these points, and which candidate each point is: "The reduction shall return, beside each point, the place of its candidate in the list
-- as it stood before any pick" (document 02, d). Definitions only.
use Rattle.std.specs.Prelude.{ℕ, suc, ◌-◌, List, [], ◌∷◌, ◌++◌, length, replicate}
use Rattle.vector.specs.declared.Vec3.{Vec3}
use Rattle.vector.specs.Arithmetic.{zero_vec}
use Rattle.manifold.specs.declared.ClipVertex.{ClipVertex}
use Rattle.manifold.specs.declared.Point.{Point}
use Rattle.manifold.specs.declared.Contact.{Contact}
use Rattle.manifold.specs.Records.{unused_point}

-- the point of an image whose candidate stands at this place
unfoldable pub point_of : ℕ → ClipVertex → Point
point_of place v = record { position = v.position; separation = v.separation; pair = v.pair; place = place }

-- a point for each of these images, the first at this place, each other one place behind the one before it
unfoldable pub placed_from : ℕ → List ClipVertex → List Point
placed_from place [] = []
placed_from place (v ∷ vs) = point_of place v ∷ placed_from (suc place) vs

-- a point for each image of a whole list, at places 0, 1, ..
abbrev pub placed : List ClipVertex → List Point
placed = placed_from 0

-- the normal of a contact is zero where there are no points
unfoldable pub normal_of : Vec3 → List Point → Vec3
normal_of normal [] = zero_vec
normal_of normal (p ∷ ps) = normal

-- points at or above their number are unused
unfoldable pub contact_of : Vec3 → List Point → Contact
contact_of normal l = record { points = l ++ replicate (4 - length l) unused_point; normal = normal_of normal l; count = length l }

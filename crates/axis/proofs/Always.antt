-- On accepted hulls and an accepted transform every face has a finite separation, so the first face of a side takes the lead and a face of each side is
-- found: the search has no answer for none. Assumes nothing.
use Prim.Native.Nat.{ℕ}
use mathlib.Core.Bool.{true}
use mathlib.Core.List.{List}
use mathlib.Core.Path.{◌≡◌, refl}
use lib.Ieee.{Float}
use Rattle.vector.specs.declared.Transform.{Transform}
use Rattle.hull_links.specs.declared.HullSize.{HullSize}
use Rattle.hull_limits.specs.Transform.{Placed}
use Rattle.hull.specs.Accepted.{Accepted}
use Rattle.axis_faces.specs.declared.Side.{Side}
use Rattle.axis_faces.proofs.Found.{found}
use Rattle.axis.specs.Search.{side_of_a, side_of_b}
use Rattle.axis.proofs.Ready.{facing_a, facing_b}

module _ {s t : HullSize} {n m : List Float} {l k : List ℕ} (x : Transform) (a : Accepted s n l) (b : Accepted t m k) (placed : Placed x) where
  pub found_a : (side_of_a s n t m x).found ≡ true
  unfolding side_of_a
  found_a = found Side.A (facing_a x a b placed _ refl)

  pub found_b : (side_of_b s n t m x).found ≡ true
  unfolding side_of_b
  found_b = found Side.B (facing_b x a b placed _ refl)

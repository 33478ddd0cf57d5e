-- Request k: every face separation is a finite number, and so the first face always becomes the best: on accepted input, in each of the four units.
-- Assumes nothing.
use Prim.Native.Nat.{ℕ}
use mathlib.Core.Bool.{true}
use mathlib.Core.List.{List}
use mathlib.Core.Path.{◌≡◌, refl}
use lib.Ieee.{Float}
use Rattle.vector.specs.declared.Transform.{Transform}
use Rattle.rotation.specs.Rotation.{matrix_of, transpose_of}
use Rattle.hull_links.specs.declared.HullSize.{HullSize}
use Rattle.hull_limits.specs.Transform.{transform_right}
use Rattle.hull_limits.proofs.Placed.{placed}
use Rattle.hull.specs.Rule8.{broken_rule}
use Rattle.hull.proofs.Accepted.{accepted}
use Rattle.axis_best.specs.Leads.{lead_after}
use Rattle.axis_faces.specs.declared.Side.{Side}
use Rattle.axis_faces.specs.inner.Ready.{Facing}
use Rattle.axis_faces.proofs.Found.{new_face, separation_finite, first_best, found}
use Rattle.axis.specs.Search.{side_of_a, side_of_b}
use Rattle.axis.proofs.Ready.{facing_a, facing_b}
use Rattle.promises.specs.Separations.{FacesFound}

-- hull A is (s, n, l), hull B is (t, m, k), and x places B in A's frame; the unit of each hull is 1, 10, 100 or 1000, since it breaks no rule
module _ (s : HullSize) (n : List Float) (l : List ℕ) (t : HullSize) (m : List Float) (k : List ℕ) (x : Transform)
    (right_a : broken_rule s n l ≡ 0) (right_b : broken_rule t m k ≡ 0) (right_x : transform_right s.unit x ≡ true) where
  of_a : Facing (transpose_of (matrix_of x.q)) x.p s n t m
  of_a = facing_a x (accepted s n l right_a) (accepted t m k right_b) (placed s.unit x right_x) _ refl

  of_b : Facing (matrix_of x.q) x.p t m s n
  of_b = facing_b x (accepted s n l right_a) (accepted t m k right_b) (placed s.unit x right_x) _ refl

  pub on_accepted_input : FacesFound s n t m x
  unfolding lead_after new_face side_of_a side_of_b
  on_accepted_input =
      record {
        finite_a = separation_finite Side.A of_a;
        finite_b = separation_finite Side.B of_b;
        first_a = first_best Side.A of_a;
        first_b = first_best Side.B of_b;
        found_a = found Side.A of_a;
        found_b = found Side.B of_b;
      }

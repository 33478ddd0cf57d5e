-- What acceptance of both hulls and of the transform gives to the face phase and to the edge phase. Assumes nothing.
use Prim.Native.Nat.{ℕ}
use mathlib.Core.Bool.{true}
use mathlib.Core.List.{List}
use mathlib.Core.Path.{◌≡◌, sym, subst}
use denote.Floats.{passes}
use lib.Dec.{T}
use lib.Ieee.{Float, le}
use Rattle.vector.specs.declared.Vec3.{Vec3}
use Rattle.vector.specs.declared.Transform.{Transform}
use Rattle.vector.specs.Rounded.{float}
use Rattle.vector.specs.Bounded.{VecBelow}
use Rattle.rotation.specs.Rotation.{Rows, matrix_of, transpose_of}
use Rattle.rotation.specs.Within.{RowsWithin}
use Rattle.rotation.proofs.Within.{matrix_within, transpose_within}
use Rattle.hull_links.specs.declared.HullSize.{HullSize}
use Rattle.hull_links.proofs.Tests.{and_right}
use Rattle.hull_limits.specs.Measures.{inside, near_one}
use Rattle.hull_limits.specs.Transform.{Placed}
use Rattle.hull.specs.Accepted.{Accepted}
use Rattle.axis_faces.specs.inner.Ready.{Facing}
use Rattle.axis_edges.specs.inner.Ready.{EdgesIn}

pub edges_in : {s : HullSize} {n : List Float} {l : List ℕ} → Accepted s n l → EdgesIn s l
edges_in ok = record { fit = ok.links_fit; origin_in = ok.origin_in; face_in = ok.face_in }

-- a sum of squares near 1 is at most 1.01
at_most_one : (x : Float) → near_one x ≡ true → T (le x (float 0x3f81_47ae))
unfolding near_one inside
at_most_one x q = passes _ (and_right _ _ q)

facing : {s t : HullSize} {n m : List Float} {l k : List ℕ} {turn : Rows} {position : Vec3} → Accepted s n l → Accepted t m k
    → RowsWithin 5 14 turn → VecBelow 22 position → Facing turn position s n t m
facing a b r p =
    record {
      fit = a.numbers_fit;
      other_fit = b.numbers_fit;
      turn_within = r;
      position_below = p;
      normals_below = a.normals_below;
      normals_unit = λ f h. at_most_one _ (a.normals_unit f h);
      offsets_below = a.offsets_below;
      vertices_within = b.vertices_within;
      lower_within = b.lower_within;
      upper_within = b.upper_within;
    }

module _ {s t : HullSize} {n m : List Float} {l k : List ℕ} (x : Transform) (a : Accepted s n l) (b : Accepted t m k) (placed : Placed x) where
  rows : RowsWithin 5 14 (matrix_of x.q)
  rows = matrix_within x.q (at_most_one _ placed.turn_unit)

  -- A's faces against B's vertices, and B's faces against A's; the turn may go by another name
  pub facing_a : (turn : Rows) → turn ≡ transpose_of (matrix_of x.q) → Facing turn x.p s n t m
  facing_a turn e = facing a b (subst (RowsWithin 5 14) (sym e) (transpose_within rows)) placed.position_below

  pub facing_b : (turn : Rows) → turn ≡ matrix_of x.q → Facing turn x.p t m s n
  facing_b turn e = facing b a (subst (RowsWithin 5 14) (sym e) rows) placed.position_below

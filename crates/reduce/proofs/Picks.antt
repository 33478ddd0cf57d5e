-- What each pick puts among the points, by the answer of its search: l is what is left of the images, m of the points with their places. Assumes nothing.
use Prim.Native.Nat.{ℕ, ◌<◌, ◌≤◌}
use mathlib.Core.Path.{◌≡◌}
use mathlib.Core.Bool.{true, false}
use mathlib.Core.List.{List, [], ◌∷◌}
use lib.ListN.{length, get_or}
use Rattle.std.specs.Prelude.{Some, None}
use lib.Ieee.{Float, lt}
use borrow.Author.Tests.{le-leb, lt-leb}
use Rattle.vector.specs.declared.Vec3.{Vec3}
use Rattle.manifold.specs.declared.ClipVertex.{ClipVertex}
use Rattle.manifold.specs.declared.Point.{Point}
use Rattle.manifold.specs.Records.{past_vertex, past_point}
use Rattle.reduce_scores.specs.declared.Best.{Best}
use Rattle.reduce_scores.specs.Scores.{triangle_of}
use Rattle.reduce_points.specs.Points.{placed}
use Rattle.reduce_points.proofs.Placed.{length_placed}
use Rattle.reduce.specs.Reduce.{without, taken, tolerance, first_best, second_best, third_best, fourth_best, fourth_picks, third_picks, second_picks}
use Rattle.reduce.specs.Reduce.{first_picks, all_or_picked, points_of}

-- four or fewer are all kept; of more, what the picks take
pub all_kept : (picks : List ℕ) (l : List ClipVertex) → length l ≤ 4 → placed l ≡ points_of picks l
unfolding all_or_picked points_of
all_kept picks l h = rw (length_placed 0 l, le-leb (length l) 4 h)

pub picks_kept : (picks : List ℕ) (l : List ClipVertex) → 4 < length l → taken past_point picks (placed l) ≡ points_of picks l
unfolding all_or_picked points_of
picks_kept picks l h = rw (length_placed 0 l, lt-leb (length l) 4 h)

module _ (far : Float) (normal direction : Vec3) (l : List ClipVertex) (m : List Point) (best : Best) (e : best ≡ first_best far direction l) where
  pub no_first : best.index ≡ None → [] ≡ taken past_point (first_picks far direction normal l) m
  unfolding taken first_picks
  no_first h = rw (← e, h)

  pub a_first : (j : ℕ) (v : ClipVertex) (p : Point) → best.index ≡ Some j → v ≡ get_or l j past_vertex → p ≡ get_or m j past_point
      → p ∷ taken past_point (second_picks far normal v (without past_vertex l j)) (without past_point m j)
      ≡ taken past_point (first_picks far direction normal l) m
  unfolding taken first_picks
  a_first j v p h q r = rw (← e, h, q, r)

module _ (far : Float) (normal : Vec3) (v1 : ClipVertex) (l : List ClipVertex) (m : List Point) (best : Best)
    (e : best ≡ second_best normal v1.position l) where
  pub no_second : lt best.score (tolerance far) ≡ true → [] ≡ taken past_point (second_picks far normal v1 l) m
  unfolding taken second_picks
  no_second h = rw (← e, h)

  pub a_second : (j : ℕ) (v : ClipVertex) (p : Point) → best.index ≡ Some j → v ≡ get_or l j past_vertex → p ≡ get_or m j past_point
      → lt best.score (tolerance far) ≡ false
      → p ∷ taken past_point (third_picks far normal v1 v (without past_vertex l j)) (without past_point m j)
      ≡ taken past_point (second_picks far normal v1 l) m
  unfolding taken second_picks
  a_second j v p i q r h = rw (← e, h, i, q, r)

module _ (far : Float) (normal : Vec3) (v1 v2 : ClipVertex) (l : List ClipVertex) (m : List Point) (best : Best)
    (e : best ≡ third_best normal (tolerance far) v1.position v2.position l) where
  pub no_third : best.index ≡ None → [] ≡ taken past_point (third_picks far normal v1 v2 l) m
  unfolding taken third_picks
  no_third h = rw (← e, h)

  pub a_third : (j : ℕ) (v : ClipVertex) (p : Point) → best.index ≡ Some j → v ≡ get_or l j past_vertex → p ≡ get_or m j past_point
      → p ∷ taken past_point (fourth_picks far normal v1 v2 v (without past_vertex l j)) (without past_point m j)
      ≡ taken past_point (third_picks far normal v1 v2 l) m
  unfolding taken third_picks
  a_third j v p h q r = rw (← e, h, q, r)

module _ (far : Float) (normal : Vec3) (v1 v2 v3 : ClipVertex) (l : List ClipVertex) (m : List Point) (best : Best)
    (e : best ≡ fourth_best normal (tolerance far) (triangle_of normal v1.position v2.position v3.position) l) where
  pub no_fourth : best.index ≡ None → [] ≡ taken past_point (fourth_picks far normal v1 v2 v3 l) m
  unfolding taken fourth_picks
  no_fourth h = rw (← e, h)

  pub a_fourth : (j : ℕ) (p : Point) → best.index ≡ Some j → p ≡ get_or m j past_point → p ∷ [] ≡ taken past_point (fourth_picks far normal v1 v2 v3 l) m
  unfolding taken fourth_picks
  a_fourth j p h r = rw (← e, h, r)

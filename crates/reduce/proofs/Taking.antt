-- The points of the picks so far, and what the picks that are left take of the rest, are what all picks take. Assumes nothing.
use Prim.Native.Nat.{ℕ, ◌-◌, ◌<◌}
use mathlib.Core.Path.{◌≡◌, refl, ap, ◌∙◌}
use mathlib.Core.Bool.{true, false}
use mathlib.Core.List.{List, [], ◌∷◌}
use native.Mathlib.Omega.{arith}
use lib.ListN.{length, get_or}
use lib.Ieee.{Float, lt}
use Rattle.std.specs.Prelude.{Some, None}
use Rattle.vector.specs.declared.Vec3.{Vec3}
use Rattle.vector.specs.Rounded.{float}
use Rattle.manifold.specs.declared.ClipVertex.{ClipVertex}
use Rattle.manifold.specs.declared.Point.{Point}
use Rattle.manifold.specs.Records.{past_vertex, past_point}
use Rattle.reduce_scores.specs.declared.Best.{Best}
use Rattle.reduce_scores.specs.Scores.{triangle_of}
use Rattle.reduce_points.specs.Points.{point_of, placed}
use Rattle.reduce.specs.declared.held.Images.{Images}
use Rattle.reduce.specs.inner.Held.{images_of}
use Rattle.reduce.specs.Reduce.{standing, taken, tolerance, first_best, second_best, third_best, fourth_best, first_picks, second_picks, third_picks}
use Rattle.reduce.specs.Reduce.{fourth_picks}
use Rattle.reduce.proofs.Standing.{left, stands, stands_third, place_low, read_left, point_left, length_left_of}
use Rattle.reduce.proofs.Answers.{sized, first_low, second_found, second_none, third_low, fourth_low}
use Rattle.reduce.proofs.Picks.{no_first, a_first, no_second, a_second, no_third, a_third, no_fourth, a_fourth}

-- what is left of the images once those at js were taken, and of the points with their places
abbrev pub rest : Images → List ℕ → List ClipVertex
rest images js = left past_vertex (images_of images) js

abbrev pub rest_points : Images → List ℕ → List Point
rest_points images js = left past_point (placed (images_of images)) js

-- the image of v's candidate, at this place, is what is left at i
module _ (images : Images) (js : List ℕ) (i : ℕ) (h : i < length (rest images js)) where
  index_low : i < images.n - length js
  index_low = omega (arith, length_left_of past_vertex (images_of images) images.n (sized images) js)

  module _ (place : ℕ) (e : place ≡ stands images.n js i) where
    low : place < images.n
    low = place_low images.n js i place index_low e

    module _ (v : ClipVertex) (r : v ≡ get_or (images_of images) place past_vertex) where
      reads : v ≡ get_or (rest images js) i past_vertex
      reads = r ∙ read_left past_vertex (images_of images) images.n (sized images) js i place index_low e

      says : point_of place v ≡ get_or (rest_points images js) i past_point
      says = ap (point_of place) r ∙ point_left (images_of images) images.n (sized images) js i place index_low e

-- ---- what all picks take, and what they take behind one, two and three points
module _ (images : Images) (far : Float) (direction : Vec3) where
  abbrev pub all : List Point
  all = taken past_point (first_picks far direction images.normal (images_of images)) (placed (images_of images))

  pub record One (j1 : ℕ) (v1 : ClipVertex) : Type 0 where
    pub so_far : point_of j1 v1 ∷ taken past_point (second_picks far images.normal v1 (rest images (j1 ∷ []))) (rest_points images (j1 ∷ [])) ≡ all

  pub record Two (j1 : ℕ) (v1 : ClipVertex) (j2 place2 : ℕ) (v2 : ClipVertex) : Type 0 where
    pub so_far : point_of j1 v1 ∷ point_of place2 v2
        ∷ taken past_point (third_picks far images.normal v1 v2 (rest images (j1 ∷ j2 ∷ []))) (rest_points images (j1 ∷ j2 ∷ [])) ≡ all

  pub record Three (j1 : ℕ) (v1 : ClipVertex) (j2 place2 : ℕ) (v2 : ClipVertex) (j3 place3 : ℕ) (v3 : ClipVertex) : Type 0 where
    pub so_far : point_of j1 v1 ∷ point_of place2 v2 ∷ point_of place3 v3
        ∷ taken past_point (fourth_picks far images.normal v1 v2 v3 (rest images (j1 ∷ j2 ∷ j3 ∷ []))) (rest_points images (j1 ∷ j2 ∷ j3 ∷ [])) ≡ all

  -- ---- the first search
  module _ (best : Best) (e : best ≡ first_best far direction (images_of images)) where
    pub none_taken : best.index ≡ None → [] ≡ all
    none_taken = no_first far images.normal direction (images_of images) (placed (images_of images)) best e

    module _ (j1 : ℕ) (i : best.index ≡ Some j1) where
      found1 : j1 < length (images_of images)
      found1 = first_low far direction (images_of images) best e j1 i

      pub low1 : j1 < images.n
      low1 = low images [] j1 found1 j1 refl

      pub one : (v1 : ClipVertex) → v1 ≡ get_or (images_of images) j1 past_vertex → One j1 v1
      one v1 r = record {
        so_far =
            a_first far images.normal direction (images_of images) (placed (images_of images)) best e j1 v1 (point_of j1 v1) i r
            (says images [] j1 found1 j1 refl v1 r);
      }

  -- ---- the second
  module _ (j1 : ℕ) (v1 : ClipVertex) (a : One j1 v1) (best : Best) (e : best ≡ second_best images.normal v1.position (rest images (j1 ∷ []))) where
    pub one_taken : lt best.score (tolerance far) ≡ true → point_of j1 v1 ∷ [] ≡ all
    one_taken h =
        ap (λ (ps : List Point). point_of j1 v1 ∷ ps)
        (no_second far images.normal v1 (rest images (j1 ∷ [])) (rest_points images (j1 ∷ [])) best e h)
        ∙ a.so_far

    pub only_one : lt (float 0) (tolerance far) ≡ true → best.index ≡ None → point_of j1 v1 ∷ [] ≡ all
    only_one positive h = one_taken (second_none (tolerance far) positive images.normal v1.position (rest images (j1 ∷ [])) best e h)

    module _ (j2 : ℕ) (i : best.index ≡ Some j2) (place2 : ℕ) (s : place2 ≡ standing images.n j1 j2) where
      found2 : j2 < length (rest images (j1 ∷ []))
      found2 = second_found images.normal v1.position (rest images (j1 ∷ [])) best e j2 i

      pub low2 : place2 < images.n
      low2 = low images (j1 ∷ []) j2 found2 place2 s

      pub two : lt best.score (tolerance far) ≡ false → (v2 : ClipVertex) → v2 ≡ get_or (images_of images) place2 past_vertex → Two j1 v1 j2 place2 v2
      two h v2 r = record {
        so_far =
            ap (λ (ps : List Point). point_of j1 v1 ∷ ps)
            (a_second far images.normal v1 (rest images (j1 ∷ [])) (rest_points images (j1 ∷ [])) best e j2 v2 (point_of place2 v2) i
            (reads images (j1 ∷ []) j2 found2 place2 s v2 r) (says images (j1 ∷ []) j2 found2 place2 s v2 r) h)
            ∙ a.so_far;
      }

  -- ---- the third
  module _ (j1 : ℕ) (v1 : ClipVertex) (j2 place2 : ℕ) (v2 : ClipVertex) (a : Two j1 v1 j2 place2 v2) (best : Best)
      (e : best ≡ third_best images.normal (tolerance far) v1.position v2.position (rest images (j1 ∷ j2 ∷ []))) where
    pub two_taken : best.index ≡ None → point_of j1 v1 ∷ point_of place2 v2 ∷ [] ≡ all
    two_taken h =
        ap (λ (ps : List Point). point_of j1 v1 ∷ point_of place2 v2 ∷ ps)
        (no_third far images.normal v1 v2 (rest images (j1 ∷ j2 ∷ [])) (rest_points images (j1 ∷ j2 ∷ [])) best e h)
        ∙ a.so_far

    module _ (j3 : ℕ) (i : best.index ≡ Some j3) (place3 : ℕ) (s : place3 ≡ standing images.n j1 (standing (images.n - 1) j2 j3)) where
      found3 : j3 < length (rest images (j1 ∷ j2 ∷ []))
      found3 = third_low (tolerance far) images.normal v1.position v2.position (rest images (j1 ∷ j2 ∷ [])) best e j3 i

      pub low3 : place3 < images.n
      low3 = low images (j1 ∷ j2 ∷ []) j3 found3 place3 s

      pub three : (v3 : ClipVertex) → v3 ≡ get_or (images_of images) place3 past_vertex → Three j1 v1 j2 place2 v2 j3 place3 v3
      three v3 r = record {
        so_far =
            ap (λ (ps : List Point). point_of j1 v1 ∷ point_of place2 v2 ∷ ps)
            (a_third far images.normal v1 v2 (rest images (j1 ∷ j2 ∷ [])) (rest_points images (j1 ∷ j2 ∷ [])) best e j3 v3 (point_of place3 v3) i
            (reads images (j1 ∷ j2 ∷ []) j3 found3 place3 s v3 r) (says images (j1 ∷ j2 ∷ []) j3 found3 place3 s v3 r))
            ∙ a.so_far;
      }

  -- ---- the fourth
  module _ (j1 : ℕ) (v1 : ClipVertex) (j2 place2 : ℕ) (v2 : ClipVertex) (j3 place3 : ℕ) (v3 : ClipVertex) (a : Three j1 v1 j2 place2 v2 j3 place3 v3)
      (best : Best)
      (e : best ≡ fourth_best images.normal (tolerance far) (triangle_of images.normal v1.position v2.position v3.position)
      (rest images (j1 ∷ j2 ∷ j3 ∷ []))) where
    pub three_taken : best.index ≡ None → point_of j1 v1 ∷ point_of place2 v2 ∷ point_of place3 v3 ∷ [] ≡ all
    three_taken h =
        ap (λ (ps : List Point). point_of j1 v1 ∷ point_of place2 v2 ∷ point_of place3 v3 ∷ ps)
        (no_fourth far images.normal v1 v2 v3 (rest images (j1 ∷ j2 ∷ j3 ∷ [])) (rest_points images (j1 ∷ j2 ∷ j3 ∷ [])) best e h)
        ∙ a.so_far

    module _ (j4 : ℕ) (i : best.index ≡ Some j4) (place4 : ℕ)
        (s : place4 ≡ standing images.n j1 (standing (images.n - 1) j2 (standing (images.n - 2) j3 j4))) where
      found4 : j4 < length (rest images (j1 ∷ j2 ∷ j3 ∷ []))
      found4 =
          fourth_low (tolerance far) images.normal (triangle_of images.normal v1.position v2.position v3.position) (rest images (j1 ∷ j2 ∷ j3 ∷ [])) best e
          j4 i

      stands4 : place4 ≡ stands images.n (j1 ∷ j2 ∷ j3 ∷ []) j4
      stands4 = s ∙ stands_third images.n j1 j2 j3 j4

      pub low4 : place4 < images.n
      low4 = low images (j1 ∷ j2 ∷ j3 ∷ []) j4 found4 place4 stands4

      pub four_taken : (v4 : ClipVertex) → v4 ≡ get_or (images_of images) place4 past_vertex
          → point_of j1 v1 ∷ point_of place2 v2 ∷ point_of place3 v3 ∷ point_of place4 v4 ∷ [] ≡ all
      four_taken v4 r =
          ap (λ (ps : List Point). point_of j1 v1 ∷ point_of place2 v2 ∷ point_of place3 v3 ∷ ps)
          (a_fourth far images.normal v1 v2 v3 (rest images (j1 ∷ j2 ∷ j3 ∷ [])) (rest_points images (j1 ∷ j2 ∷ j3 ∷ [])) best e j4 (point_of place4 v4) i
          (says images (j1 ∷ j2 ∷ j3 ∷ []) j4 found4 place4 stands4 v4 r))
          ∙ a.so_far

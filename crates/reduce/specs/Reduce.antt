-- "More than four candidates: up to four picks by the scores in `reduce_manifold_points`, each pick's place filled by the last candidate." Each point
-- says which candidate it is, by "the place of its candidate in the list as it stood before any pick" (document 02, d). Definitions only.
use Rattle.std.specs.Prelude.{ℕ, zero, suc, ◌-◌, cond, Option, Some, None, unwrap_or, List, [], ◌∷◌, ◌++◌, length, take, set, get_or, eqb, leb, Float}
use Rattle.std.specs.Float.Ieee as Ieee
use Rattle.vector.specs.declared.Vec3.{Vec3}
use Rattle.vector.specs.Rounded.{float, ◌⊗◌}
use Rattle.vector.specs.Scalar.{abs_of}
use Rattle.vector.specs.Arithmetic.{sub_of}
use Rattle.manifold.specs.declared.ClipVertex.{ClipVertex}
use Rattle.manifold.specs.declared.Point.{Point}
use Rattle.manifold.specs.Records.{past_vertex, past_point}
use Rattle.manifold.specs.Polygons.{turns}
use Rattle.reduce_scores.specs.declared.Best.{Best}
use Rattle.reduce_scores.specs.declared.Triangle.{Triangle}
use Rattle.reduce_scores.specs.Images.{largest}
use Rattle.reduce_scores.specs.Scores.{better_pick_of, as_good_of, first_turn, spread_of, signed_area_of, outside_of, triangle_of}
use Rattle.reduce_points.specs.Points.{placed}

-- ---- lists from which elements are taken; d is what the logic reads past their end
-- without the element at j: its place is filled by the last
unfoldable pub without : {A : Type 0} → A → List A → ℕ → List A
without d l j = take (length l - 1) (set l j (get_or l (length l - 1) d))

-- which of n elements stands at i once the one at j was taken
unfoldable pub standing : ℕ → ℕ → ℕ → ℕ
standing n j i = cond (eqb i j) (n - 1) i

-- the elements at these indices, each index in the list as it stands once those before it were taken
unfoldable pub taken : {A : Type 0} → A → List ℕ → List A → List A
taken d [] l = []
taken d (j ∷ js) l = get_or l j d ∷ taken d js (without d l j)

-- ---- the searches: the best of a list by each score
abbrev none : Float → Best
none score = record { index = None; score = score }

abbrev at : List ClipVertex → ℕ → ClipVertex
at l i = get_or l i past_vertex

unfoldable pub first_best : Float → Vec3 → List ClipVertex → Best
first_best far direction l = turns (λ (best : Best) (i : ℕ). first_turn far direction best i (at l i)) (none (Ieee.neg largest)) (length l)

unfoldable pub second_best : Vec3 → Vec3 → List ClipVertex → Best
second_best normal a l = turns (λ (best : Best) (i : ℕ). better_pick_of best i (spread_of normal a (at l i))) (none (float 0)) (length l)

unfoldable pub third_best : Vec3 → Float → Vec3 → Vec3 → List ClipVertex → Best
third_best normal tolerance a b l =
    turns (λ (best : Best) (i : ℕ). as_good_of best i (abs_of (signed_area_of normal a (sub_of b a) (at l i).position))) (none tolerance) (length l)

unfoldable pub fourth_best : Vec3 → Float → Triangle → List ClipVertex → Best
fourth_best normal tolerance t l = turns (λ (best : Best) (i : ℕ). better_pick_of best i (outside_of normal t (at l i).position)) (none tolerance) (length l)

-- ---- the picks: the index that each search finds, in the list as it then stands; `far` is the speculative distance
-- what is found and what is picked after it; nothing where nothing is found
abbrev pub found_then : Option ℕ → (ℕ → List ℕ) → List ℕ
found_then None picks = []
found_then (Some j) picks = j ∷ picks j

-- speculative * speculative
abbrev pub tolerance : Float → Float
tolerance far = far ⊗ far

unfoldable pub fourth_picks : Float → Vec3 → ClipVertex → ClipVertex → ClipVertex → List ClipVertex → List ℕ
fourth_picks far normal v1 v2 v3 l =
    let best = fourth_best normal (tolerance far) (triangle_of normal v1.position v2.position v3.position) l in
    found_then best.index (λ j. [])

unfoldable pub third_picks : Float → Vec3 → ClipVertex → ClipVertex → List ClipVertex → List ℕ
third_picks far normal v1 v2 l =
    let best = third_best normal (tolerance far) v1.position v2.position l in
    found_then best.index (λ j. fourth_picks far normal v1 v2 (at l j) (without past_vertex l j))

-- the second search starts from a score of 0: whatever reaches the tolerance is picked, the first where none was found (of a tolerance above 0 there
-- is always one)
unfoldable pub second_picks : Float → Vec3 → ClipVertex → List ClipVertex → List ℕ
second_picks far normal v1 l =
    let best = second_best normal v1.position l in
    let j = unwrap_or best.index 0 in
    cond (Ieee.lt best.score (tolerance far)) [] (j ∷ third_picks far normal v1 (at l j) (without past_vertex l j))

unfoldable pub first_picks : Float → Vec3 → Vec3 → List ClipVertex → List ℕ
first_picks far direction normal l =
    let best = first_best far direction l in
    found_then best.index (λ j. second_picks far normal (at l j) (without past_vertex l j))

-- ---- the points: all, in order, of four or fewer; else what the picks take
unfoldable pub all_or_picked : {A : Type 0} → A → List ℕ → List A → List A
all_or_picked d picks l = cond (leb (length l) 4) l (taken d picks l)

-- the points that these picks take of these images, each with its place in the list before any pick
unfoldable pub points_of : List ℕ → List ClipVertex → List Point
points_of picks images = all_or_picked past_point picks (placed images)

-- 0, 1, .., n - 1
unfoldable pub numbered : ℕ → List ℕ
numbered zero = []
numbered (suc n) = numbered n ++ (n ∷ [])

-- the places alone: the same picks, of the places of n images themselves
unfoldable pub places_of : List ℕ → ℕ → List ℕ
places_of picks n = all_or_picked 0 picks (numbered n)

-- The four scores of `reduce_manifold_points`, each operation rounded once in the order of the text, and the bias of 0.95. Definitions only.
use Rattle.std.specs.Prelude.{ℕ, cond, Some, Float}
use Rattle.std.specs.Float.Ieee as Ieee
use Rattle.vector.specs.declared.Vec3.{Vec3}
use Rattle.vector.specs.Rounded.{float, ◌⊕◌, ◌⊗◌}
use Rattle.vector.specs.Scalar.{max_of}
use Rattle.vector.specs.Arithmetic.{sub_of, dot_of, cross_of, mul_sub_of, length_squared_of}
use Rattle.manifold.specs.declared.ClipVertex.{ClipVertex}
use Rattle.reduce_scores.specs.declared.Best.{Best}
use Rattle.reduce_scores.specs.declared.Triangle.{Triangle}

-- 0.95
abbrev pub bias : Float
bias = float 0x3f73_3333

-- candidate i takes the place of the best: `bias * score > best_score`, and `bias * score >= best_score`
unfoldable pub better_pick_of : Best → ℕ → Float → Best
better_pick_of best i score = cond (Ieee.lt best.score (bias ⊗ score)) (record { index = Some i; score = score }) best

unfoldable pub as_good_of : Best → ℕ → Float → Best
as_good_of best i score = cond (Ieee.le best.score (bias ⊗ score)) (record { index = Some i; score = score }) best

-- step 1, "extreme point that is touching"
unfoldable pub reach_of : Vec3 → ClipVertex → Float
reach_of direction v = Ieee.neg v.separation ⊕ dot_of direction v.position

-- a candidate strictly above `far`, the speculative distance, is passed over
unfoldable pub first_turn : Float → Vec3 → Best → ℕ → ClipVertex → Best
first_turn far direction best i v = cond (Ieee.lt far v.separation) best (better_pick_of best i (reach_of direction v))

-- step 2, "farthest point in 2D": from a, across the normal
unfoldable pub across_of : Vec3 → Vec3 → Vec3
across_of normal d = mul_sub_of d (dot_of d normal) normal

unfoldable pub spread_of : Vec3 → Vec3 → ClipVertex → Float
spread_of normal a v =
    let deep = max_of (float 0) (Ieee.neg v.separation) in
    length_squared_of (across_of normal (sub_of v.position a)) ⊕ float 0x4080_0000 ⊗ deep ⊗ deep

-- step 3, "maximum triangular area": of a, a + ba and p
unfoldable pub signed_area_of : Vec3 → Vec3 → Vec3 → Vec3 → Float
signed_area_of normal a ba p = dot_of normal (cross_of ba (sub_of p a))

-- step 4, "adds the most area outside the triangle": the side that goes from `from` along `along`, and the farthest of the three
unfoldable pub side_of : Vec3 → Vec3 → Vec3 → Vec3 → Float
side_of normal from along p = dot_of normal (cross_of (sub_of p from) along)

unfoldable pub outside_of : Vec3 → Triangle → Vec3 → Float
outside_of normal t p =
    max_of (t.sign ⊗ side_of normal t.a (sub_of t.b t.a) p)
    (max_of (t.sign ⊗ side_of normal t.b (sub_of t.c t.b) p) (t.sign ⊗ side_of normal t.c (sub_of t.a t.c) p))

-- the first three points: the sign is -1 where their area is below zero, else 1
unfoldable pub triangle_of : Vec3 → Vec3 → Vec3 → Vec3 → Triangle
triangle_of normal a b c =
    record {
      a = a;
      b = b;
      c = c;
      sign = cond (Ieee.lt (signed_area_of normal a (sub_of b a) c) (float 0)) (Ieee.neg (float 0x3f80_0000)) (float 0x3f80_0000);
    }

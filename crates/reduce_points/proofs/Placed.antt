-- Points with their places: as many as images, each the image at its own place. Assumes nothing.
use Prim.Native.Nat.{ℕ, zero, suc, ◌+◌, ◌<◌}
use mathlib.Core.Path.{◌≡◌, refl, ap, ap₂, ◌∙◌}
use mathlib.Core.List.{List, [], ◌∷◌, map}
use native.Mathlib.Nat.{not-suc-le-zero}
use native.Mathlib.Omega.{arith}
use lib.ListN.{length, get_or}
use Rattle.manifold.specs.declared.ClipVertex.{ClipVertex}
use Rattle.manifold.specs.declared.Point.{Point}
use Rattle.manifold.specs.Records.{past_vertex}
use Rattle.reduce_points.specs.Points.{point_of, placed_from, placed}

pub length_placed : (k : ℕ) (l : List ClipVertex) → length (placed_from k l) ≡ length l
unfolding placed_from
length_placed k [] = refl
length_placed k (v ∷ vs) = ap suc (length_placed (suc k) vs)

at_placed_from : (d : Point) (k : ℕ) (l : List ClipVertex) (i : ℕ) → i < length l → get_or (placed_from k l) i d ≡ point_of (k + i) (get_or l i past_vertex)
unfolding placed_from
at_placed_from d k [] i h = absurd (not-suc-le-zero h)
at_placed_from d k (v ∷ vs) zero h = let e : k ≡ k + 0 = omega arith in ap (λ (j : ℕ). point_of j v) e
at_placed_from d k (v ∷ vs) (suc i) h =
    let e : suc k + i ≡ k + suc i = omega arith in
    at_placed_from d (suc k) vs i (omega arith) ∙ ap (λ (j : ℕ). point_of j (get_or vs i past_vertex)) e

pub at_placed : (d : Point) (l : List ClipVertex) (i : ℕ) → i < length l → get_or (placed l) i d ≡ point_of i (get_or l i past_vertex)
at_placed d l i h =
    let e : 0 + i ≡ i = omega arith in
    at_placed_from d 0 l i h ∙ ap (λ (j : ℕ). point_of j (get_or l i past_vertex)) e

-- what is done to images and to points alike comes to the same before they get their places and after
pub placed_map : (g : ClipVertex → ClipVertex) (h : Point → Point) → ((j : ℕ) (v : ClipVertex) → h (point_of j v) ≡ point_of j (g v))
    → (k : ℕ) (l : List ClipVertex) → map h (placed_from k l) ≡ placed_from k (map g l)
unfolding placed_from
placed_map g h e k [] = refl
placed_map g h e k (v ∷ vs) = ap₂ ◌∷◌ (e k v) (placed_map g h e (suc k) vs)

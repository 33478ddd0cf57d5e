-- A polygon whose corners are all kept: the cut leaves it as it is, and the loop that tries them. Assumes nothing.
use Prim.Native.Nat.{ℕ, suc, ◌+◌, ◌-◌, ◌*◌, ◌≤◌, ◌<◌}
use mathlib.Core.Path.{◌≡◌, refl, ap}
use mathlib.Core.Bool.{Bool, true, false, cond, false≢true}
use mathlib.Core.List.{List, [], ◌∷◌}
use native.Mathlib.Omega.{arith}
use native.Mathlib.Nat.{add-zero}
use lib.ListN.{get_or}
use lib.Ieee.{Float, nan}
use Rattle.vector.specs.declared.Plane.{Plane}
use Rattle.vector.specs.Shape.{plane_separation_of}
use Rattle.manifold.specs.declared.ClipVertex.{ClipVertex}
use Rattle.clip_cut.specs.Cut.{kept, put_out_of, cut_from, last_of, cut_of, all_kept}
use Rattle.clip_corners.specs.Places.{corner_in, corners_in}

-- ---- the cut
first : (b c : Bool) → cond b c false ≡ true → b ≡ true
first true c e = refl
first false c e = e

second : (b c : Bool) → cond b c false ≡ true → c ≡ true
second true c e = e
second false c e = absurd (false≢true e)

module _ (plane : Plane) where
  abbrev kept_at : ClipVertex → Bool
  kept_at v = kept (plane_separation_of plane v.position)

  last_kept : (w : ClipVertex) (vs : List ClipVertex) → kept_at w ≡ true → all_kept plane vs ≡ true → kept_at (last_of w vs) ≡ true
  unfolding last_of all_kept
  last_kept w [] h k = h
  last_kept w (x ∷ vs) h k = last_kept x vs (first (kept_at x) (all_kept plane vs) k) (second (kept_at x) (all_kept plane vs) k)

  module _ (edge : ℕ) (reference : Plane) where
    from_kept : (v1 : ClipVertex) (vs : List ClipVertex) → kept_at v1 ≡ true → all_kept plane vs ≡ true → cut_from plane edge reference v1 vs ≡ vs
    unfolding cut_from all_kept put_out_of
    from_kept v1 [] h k = refl
    from_kept v1 (v2 ∷ vs) h k =
        let here : kept_at v2 ≡ true = first (kept_at v2) (all_kept plane vs) k in
        rw (h, here) (ap (λ (l : List ClipVertex). v2 ∷ l) (from_kept v2 vs here (second (kept_at v2) (all_kept plane vs) k)))

    pub cut_keeps_all : (vs : List ClipVertex) → all_kept plane vs ≡ true → cut_of plane edge reference vs ≡ vs
    unfolding cut_of cut_from last_of all_kept
    cut_keeps_all [] k = refl
    cut_keeps_all (w ∷ vs) k =
        from_kept (last_of w vs) (w ∷ vs) (last_kept w vs (first (kept_at w) (all_kept plane vs) k) (second (kept_at w) (all_kept plane vs) k)) k

-- ---- the loop: the first i of m corners are kept
module _ (n : List Float) (p m : ℕ) (plane : Plane) where
  pub record Keeping (i : ℕ) : Type 0 where
    pub left : (t : List ℕ) → all_kept plane (corners_in n t (p + i) (m - i)) ≡ all_kept plane (corners_in n t p m)

  pub keep_begins : Keeping 0
  keep_begins =
      let z : m - 0 ≡ m = omega arith in
      record { left = λ (t : List ℕ). rw (z, add-zero p) refl }

  module _ (i : ℕ) (c : Keeping i) where
    -- corner i, and those behind it
    module _ (h : i < m) (d : Float) (is : d ≡ plane_separation_of plane (record {
      x = get_or n (4 * (p + i)) nan;
      y = get_or n (4 * (p + i) + 1) nan;
      z = get_or n (4 * (p + i) + 2) nan;
    })) (t : List ℕ) where
      split : cond (kept d) (all_kept plane (corners_in n t (p + (i + 1)) (m - (i + 1)))) false ≡ all_kept plane (corners_in n t p m)
      unfolding all_kept corners_in corner_in
      split =
          let a : m - i ≡ suc (m - (i + 1)) = omega arith in
          let b : p + i + 1 ≡ p + (i + 1) = omega arith in
          rw (is, ← b) (rw a at (c.left t))

      pub keep_stops : kept d ≡ false → false ≡ all_kept plane (corners_in n t p m)
      keep_stops k = rw k at split

      still : kept d ≡ true → all_kept plane (corners_in n t (p + (i + 1)) (m - (i + 1))) ≡ all_kept plane (corners_in n t p m)
      still k = rw k at split

    pub keep_goes : i < m → (d : Float) → d ≡ plane_separation_of plane (record {
      x = get_or n (4 * (p + i)) nan;
      y = get_or n (4 * (p + i) + 1) nan;
      z = get_or n (4 * (p + i) + 2) nan;
    }) → kept d ≡ true → Keeping (i + 1)
    keep_goes h d is k = record { left = λ (t : List ℕ). still h d is t k }

    pub keep_ends : m ≤ i → (t : List ℕ) → true ≡ all_kept plane (corners_in n t p m)
    unfolding all_kept corners_in
    keep_ends h t =
        let z : m - i ≡ 0 = omega arith in
        rw z at (c.left t)

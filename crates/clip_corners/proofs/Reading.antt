-- Corners that are read from two lists. Assumes nothing.
use Prim.Native.Nat.{ℕ, zero, suc, ◌+◌, ◌≤◌, ◌<◌}
use mathlib.Core.Path.{◌≡◌, refl, sym, ap, ◌∙◌}
use mathlib.Core.List.{List, [], ◌∷◌}
use mathlib.Core.Logic.{inl}
use native.Mathlib.Omega.{arith}
use native.Mathlib.Nat.{add-zero}
use lib.ListN.{length, get_or}
use lib.Ieee.{Float}
use mathlib.Core.Bool.{Bool, cond}
use borrow.Author.Tests.{lt-ltb}
use Rattle.manifold.specs.declared.ClipVertex.{ClipVertex}
use Rattle.clip_corners.specs.Places.{Roomy, corner_in, corners_in, numbers_with, tags_with, laid, Laid}
use Rattle.clip_corners.specs.Standing.{Standing}
use Rattle.clip_corners.proofs.Laying.{numbers_length, tags_length, same_corner, laid_beside, still_roomy}

-- ---- k corners from corner p on
module _ (n : List Float) (t : List ℕ) where
  pub length_in : (p k : ℕ) → length (corners_in n t p k) ≡ k
  unfolding corners_in
  length_in p zero = refl
  length_in p (suc k) = ap suc (length_in (p + 1) k)

  pub corner_in_lem : (p k i : ℕ) (d : ClipVertex) → i < k → get_or (corners_in n t p k) i d ≡ corner_in n t (p + i)
  unfolding corners_in
  corner_in_lem p zero i d h = absurd (omega arith)
  corner_in_lem p (suc k) zero d h = ap (corner_in n t) (sym (add-zero p))
  corner_in_lem p (suc k) (suc i) d h =
      let e : p + 1 + i ≡ p + suc i = omega arith in
      corner_in_lem (p + 1) k i d (omega arith) ∙ ap (corner_in n t) e

-- ---- what was laid
-- they are read as they were laid, where there is no 65th
reads_back : (n : List Float) (t : List ℕ) (p k : ℕ) (l : List ClipVertex) → Roomy n t → p ≤ 64 → k + length l ≤ 64
    → corners_in (laid numbers_with n p k l) (laid tags_with t p k l) (p + k) (length l) ≡ l
unfolding corners_in laid
reads_back n t p k [] room low e = refl
reads_back n t p k (v ∷ vs) room low e =
    let n1 = numbers_with n (p + k) v in
    let t1 = tags_with t (p + k) v in
    let a : length n1 ≡ 512 = numbers_length n t (p + k) v ∙ room.numbers_room in
    let b : length t1 ≡ 512 = tags_length n t (p + k) v ∙ room.tags_room in
    let here : corner_in (laid numbers_with n1 p (k + 1) vs) (laid tags_with t1 p (k + 1) vs) (p + k) ≡ v =
    laid_beside n1 t1 p (k + 1) vs (p + k) (inl (omega arith)) ∙ same_corner n t (p + k) v (omega (arith, room.numbers_room, low, e))
    (omega (arith, room.tags_room, low, e)) in
    let rest : corners_in (laid numbers_with n1 p (k + 1) vs) (laid tags_with t1 p (k + 1) vs) (p + (k + 1)) (length vs) ≡ vs =
    reads_back n1 t1 p (k + 1) vs (record { numbers_room = a; tags_room = b }) low (omega arith) in
    let z : p + k + 1 ≡ p + (k + 1) = omega arith in
    let fits = lt-ltb k 64 (omega arith) in
    let numbers_on : laid numbers_with n p k (v ∷ vs) ≡ laid numbers_with n1 p (k + 1) vs =
    ap (λ (b : Bool). laid numbers_with (cond b n1 n) p (k + 1) vs) fits in
    let tags_on : laid tags_with t p k (v ∷ vs) ≡ laid tags_with t1 p (k + 1) vs = ap (λ (b : Bool). laid tags_with (cond b t1 t) p (k + 1) vs) fits in
    ap (λ (a : List Float). corners_in a (laid tags_with t p k (v ∷ vs)) (p + k) (suc (length vs))) numbers_on
    ∙ (ap (λ (a : List ℕ). corners_in (laid numbers_with n1 p (k + 1) vs) a (p + k) (suc (length vs))) tags_on
    ∙ (ap (λ (x : ClipVertex). x ∷ corners_in (laid numbers_with n1 p (k + 1) vs) (laid tags_with t1 p (k + 1) vs) (p + k + 1) (length vs)) here
    ∙ (ap (λ (q : ℕ). v ∷ corners_in (laid numbers_with n1 p (k + 1) vs) (laid tags_with t1 p (k + 1) vs) q (length vs)) z ∙ ap (λ l. v ∷ l) rest)))

module _ (n : List Float) (t : List ℕ) (p : ℕ) (l : List ClipVertex) (n' : List Float) (t' : List ℕ) (r : ℕ) (room : Roomy n t) (low : p ≤ 64)
    (a : Laid n t p 0 l n' t' r) where
  pub all_counted : r ≡ length l
  all_counted = omega (arith, a.counted)

  pub all_back : r ≤ 64 → corners_in n' t' p r ≡ l
  all_back h =
      let z : p + 0 ≡ p = add-zero p in
      rw (all_counted, a.numbers_are, a.tags_are) (rw z at (reads_back n t p 0 l room low (omega (arith, h, all_counted))))

  -- where they stand
  pub stands : Standing n' t' l (record { from = p; count = r })
  stands = record {
    roomy = still_roomy n t p 0 l n' t' r a room;
    low = low;
    counted = all_counted;
    corners = λ (h : length l ≤ 64). all_back (omega (arith, h, all_counted));
  }

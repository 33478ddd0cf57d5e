-- A list cut into parts, which a loop writes one after the other. Assumes nothing.
use Prim.Native.Nat.{ℕ, zero, suc, ◌+◌, ◌*◌, ◌-◌, ◌≤◌, ◌<◌}
use mathlib.Core.Path.{◌≡◌, refl, sym, ap, subst, ◌∙◌}
use mathlib.Core.List.{List, [], ◌∷◌, ◌++◌, append_assoc}
use native.Mathlib.Omega.{arith}
use native.Mathlib.Nat.{not-suc-le-zero, mul-le-mul_left}
use native.Mathlib.Numerals.{add-one}
use borrow.Author.Count.{below_more}
use lib.ListN.{length, set, take, drop, get_or}
use lib.Seq.{sets, sets-eq, length-sets, length-take-le, drop-set-add, take-set-le, drop-set-lt, drop_at, take_at, get_or-drop, drop-drop}
use Rattle.lists.specs.Written.{Wrote}
use Rattle.lists.specs.Parts.{part_of, Parts, sum_of}

mul_next : (w k : ℕ) → w * (k + 1) ≡ w * k + w
mul_next w k = omega arith

apart : (w j k : ℕ) → j < k → w * j + w ≤ w * k
apart w j k h = subst (λ m. m ≤ w * k) (mul_next w j) (mul-le-mul_left w (subst (λ m. m ≤ k) (sym (add-one j)) h))

module _ {A : Type 0} where
  -- a stretch before the run that is written, the run, and what stands behind it
  before_set : (w j at : ℕ) (l : List A) (v : A) → j + w ≤ at → take w (drop j (set l at v)) ≡ take w (drop j l)
  before_set w j at l v h =
      let e : at ≡ j + (at - j) = omega arith in
      ap (λ k. take w (drop j (set l k v))) e
      ∙ (ap (take w) (drop-set-add j l (at - j) v) ∙ take-set-le w (drop j l) (at - j) v (omega arith))

  before_run : (w j : ℕ) (l : List A) (at : ℕ) (vs : List A) → j + w ≤ at → take w (drop j (sets l at vs)) ≡ take w (drop j l)
  before_run w j l at [] h = refl
  before_run w j l at (v ∷ vs) h = before_run w j (set l at v) (suc at) vs (omega (arith, h)) ∙ before_set w j at l v h

  the_run : (l : List A) (at : ℕ) (vs : List A) → at + length vs ≤ length l → take (length vs) (drop at (sets l at vs)) ≡ vs
  the_run l at vs h =
      ap (λ m. take (length vs) (drop at m)) (sets-eq vs l at h ∙ append_assoc (take at l) vs (drop (at + length vs) l))
      ∙ (ap (take (length vs)) (drop_at (take at l) (vs ++ drop (at + length vs) l) at (length-take-le at l (omega arith)))
      ∙ take_at vs (drop (at + length vs) l) (length vs) refl)

  behind_run : (m : ℕ) (l : List A) (at : ℕ) (vs : List A) → at + length vs ≤ m → drop m (sets l at vs) ≡ drop m l
  behind_run m l at [] h = refl
  behind_run m l at (v ∷ vs) h = behind_run m (set l at v) (suc at) vs (omega (arith, h)) ∙ drop-set-lt m l at v (omega (arith, h))

  -- no part yet; one part more; all of them
  pub begins : (w : ℕ) (g : ℕ → List A) (l : List A) → Parts w g 0 l l
  begins w g l = record { long = refl; made = λ k h. absurd (not-suc-le-zero h); kept = refl }

  pub goes_on : {w k : ℕ} {g : ℕ → List A} {was is next vs : List A} → Parts w g k was is → Wrote is (w * k) vs next → vs ≡ g k → length vs ≡ w
      → w * k + w ≤ length is → Parts w g (k + 1) was next
  goes_on {w} {k} {g} {was} {is} {next} {vs} p q e n room =
      let room_vs : w * k + length vs ≤ length is = omega arith in
      record {
        long = ap length q.by ∙ (length-sets is (w * k) vs ∙ p.long);
        made = below_more (λ j. part_of w next j ≡ g j) k
            (λ j h. ap (λ m. part_of w m j) q.by ∙ (before_run w (w * j) is (w * k) vs (apart w j k h) ∙ p.made j h))
            (ap (λ m. part_of w m k) q.by ∙ (subst (λ m. take m (drop (w * k) (sets is (w * k) vs)) ≡ vs) n (the_run is (w * k) vs room_vs) ∙ e));
        kept =
            ap (λ m. drop m next) (mul_next w k)
            ∙ (ap (drop (w * k + w)) q.by
            ∙ (behind_run (w * k + w) is (w * k) vs (omega arith)
            ∙ (sym (drop_more is) ∙ (ap (drop w) p.kept ∙ (drop_more was ∙ ap (λ m. drop m was) (sym (mul_next w k)))))));
      }
    where
      drop_more : (l : List A) → drop w (drop (w * k) l) ≡ drop (w * k + w) l
      drop_more l = drop-drop w (w * k) l

  pub ends : {w k n : ℕ} {g : ℕ → List A} {was is : List A} → Parts w g k was is → k ≡ n → Parts w g n was is
  ends {w} {k} {n} {g} {was} {is} p e = subst (λ m. Parts w g m was is) e p

  -- a place of a part that is not written yet holds what it held
  pub still : {w k : ℕ} {g : ℕ → List A} {was is : List A} (i : ℕ) (d : A) → Parts w g k was is → get_or is (w * k + i) d ≡ get_or was (w * k + i) d
  still {w} {k} {g} {was} {is} i d p = sym (get_or-drop (w * k) is i d) ∙ (ap (λ l. get_or l i d) p.kept ∙ get_or-drop (w * k) was i d)

-- sums
pub sum_none : (g : ℕ → ℕ) → 0 ≡ sum_of g 0
unfolding sum_of
sum_none g = refl

pub sum_more : (g : ℕ → ℕ) (k : ℕ) {s v : ℕ} → s ≡ sum_of g k → v ≡ g k → s + v ≡ sum_of g (k + 1)
unfolding sum_of
sum_more g k {s} {v} e f = rw (add-one, e, f)

pub sum_most : (b : ℕ) (g : ℕ → ℕ) → ((k : ℕ) → g k ≤ b) → (k : ℕ) → sum_of g k ≤ b * k
unfolding sum_of
sum_most b g h zero = omega arith
sum_most b g h (suc k) = let i = sum_most b g h k in let j = h k in let e = mul_next_suc b k in omega arith
  where
    mul_next_suc : (w k : ℕ) → w * suc k ≡ w * k + w
    mul_next_suc w k = omega arith

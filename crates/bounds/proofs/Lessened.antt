-- A difference of two numbers that are not negative, where the first is not small: the size of the second counts only as far as it passes the first.
-- Assumes nothing.
use mathlib.Core.Path.{sym, ap, ◌∙◌}
use Prim.Native.Nat.{ℕ, ◌+◌, ◌-◌, ◌*◌, ◌^◌, ◌≤◌, ◌<◌}
use native.Mathlib.Nat.{le_trans, le_of_eq, add-mul, mul_comm, mul_assoc, mul_right_comm, mul-le-mul_right, mul-pos}
use native.Mathlib.Omega.{arith}
use mathlib.Core.Bool.{true, false}
use lib.Dec.{T, leb, ltb, eqb, leb→le}
use lib.Ieee.{Float, nan, inf, fin, binary32, up, down, neg, sum, add, sub, mul}
use lib.Ieee.Fits.{down_pos}
use Rattle.bounds.specs.Within.{at_most, Within}
use Rattle.bounds.proofs.Laws.{picked}
use Rattle.bounds.proofs.Squares.{plus, round_plus, Plus}
use Rattle.bounds.proofs.Within.{round_within}
use Rattle.bounds.proofs.Norms.{from, From}

-- ---- a product of two that are not negative
mul_plus : (x y : Float) → T (plus x) → T (plus y) → T (plus (mul binary32 x y))
unfolding mul
mul_plus nan y h k = tt
mul_plus (inf true) y h k = absurd h
mul_plus (inf false) nan h k = tt
mul_plus (inf false) (inf true) h k = absurd k
mul_plus (inf false) (inf false) h k = tt
mul_plus (inf false) (fin true n d) h k = absurd k
mul_plus (inf false) (fin false n d) h k = picked (λ (z : Float). T (plus z)) (eqb n 0) {x = nan} {y = inf false} tt tt
mul_plus (fin true m e) y h k = absurd h
mul_plus (fin false m e) nan h k = tt
mul_plus (fin false m e) (inf true) h k = absurd k
mul_plus (fin false m e) (inf false) h k = picked (λ (z : Float). T (plus z)) (eqb m 0) {x = nan} {y = inf false} tt tt
mul_plus (fin false m e) (fin true n d) h k = absurd k
mul_plus (fin false m e) (fin false n d) h k = round_plus binary32 (m * up e * (n * up d)) (down e * down d)

-- ---- a difference
module _ (p r u q t : ℕ) (P : p < 2 ^ 24) (R : T (leb r 100)) (Q : q * 2 ^ t ≤ u + p * 2 ^ r) where
  less_rounded : (a b d g : ℕ) → 0 < d → 0 < g → u * d ≤ a * 65536 → a * 65536 ≤ p * 2 ^ r * d → b * 65536 ≤ q * 2 ^ t * g
      → T (at_most p r (sum binary32 false (a * g) true (b * d) (d * g)))
  unfolding sum
  less_rounded a b d g D G h k l =
      let h' : u * (d * g) ≤ a * g * 65536 =
      le_trans (le_of_eq (sym (mul_assoc u d g))) (le_trans (mul-le-mul_right g h) (le_of_eq (mul_right_comm a 65536 g))) in
      let k' : a * g * 65536 ≤ p * 2 ^ r * (d * g) =
      le_trans (le_of_eq (mul_right_comm a g 65536)) (le_trans (mul-le-mul_right g k) (le_of_eq (mul_assoc (p * 2 ^ r) d g))) in
      let l' : b * d * 65536 ≤ q * 2 ^ t * (d * g) =
      le_trans (le_of_eq (mul_right_comm b d 65536)) (le_trans (mul-le-mul_right d l)
      (le_of_eq (mul_assoc (q * 2 ^ t) g d ∙ ap (λ (z : ℕ). q * 2 ^ t * z) (mul_comm g d)))) in
      let m' : q * 2 ^ t * (d * g) ≤ u * (d * g) + p * 2 ^ r * (d * g) =
      le_trans (mul-le-mul_right (d * g) Q) (le_of_eq (add-mul u (p * 2 ^ r) (d * g))) in
      picked (λ (x : Float). T (at_most p r x)) (ltb (a * g) (b * d))
      (round_within true (b * d - a * g) (d * g) p r (mul-pos D G) P R (omega arith))
      (round_within _ (a * g - b * d) (d * g) p r (mul-pos D G) P R (omega arith))

  less_within : (x y : Float) → T (from u x) → T (at_most p r x) → T (plus y) → T (at_most q t y) → T (at_most p r (sub binary32 x y))
  unfolding sub add neg
  less_within nan y f h k l = absurd h
  less_within (inf s) y f h k l = absurd h
  less_within (fin true m e) y f h k l = absurd f
  less_within (fin false m e) nan f h k l = absurd l
  less_within (fin false m e) (inf s) f h k l = absurd l
  less_within (fin false m e) (fin true n d) f h k l = absurd k
  less_within (fin false m e) (fin false n d) f h k l =
      less_rounded (m * up e) (n * up d) (down e) (down d) (down_pos e) (down_pos d) (leb→le (u * down e) (m * up e * 65536) f)
      (leb→le (m * up e * 65536) (p * 2 ^ r * down e) h) (leb→le (n * up d * 65536) (q * 2 ^ t * down d) l)

-- ---- the laws
pub plus_mul : {x y : Float} → Plus x → Plus y → Plus (mul binary32 x y)
plus_mul {x} {y} h k = record { holds = mul_plus x y h.holds k.holds }

-- x is u units or more
pub lessened : {p r u q t : ℕ} {x y : Float} → p < 2 ^ 24 → T (leb r 100) → q * 2 ^ t ≤ u + p * 2 ^ r → From u x → Within p r x → Plus y
    → Within q t y → Within p r (sub binary32 x y)
lessened {p} {r} {u} {q} {t} {x} {y} P R Q f h k l = record { holds = less_within p r u q t P R Q x y f.holds h.holds k.holds l.holds }

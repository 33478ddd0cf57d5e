-- The bits of positive floats are in the order of the floats. So a float that is well below another stays below it when its low seven bits are replaced.
-- Assumes nothing.
use mathlib.Core.Path.{◌≡◌, sym, ap, ◌∙◌, subst}
use mathlib.Core.Logic.{inl, inr}
use Prim.Native.Nat.{ℕ, zero, suc, ◌+◌, ◌-◌, ◌*◌, ◌/◌, ◌%◌, ◌^◌, ◌≤◌, ◌<◌, zero-le}
use native.Mathlib.Nat.{le_trans, le_of_eq, le_of_lt, lt_of_le_of_lt, lt_of_not-le, not-le_of_lt, eq-or-lt_of_le, zero-add, zero-mul, add_assoc}
use native.Mathlib.Nat.{mul_comm, mul_assoc, mul_right_comm, mul-le-mul_right, mul-pos, le-div_iff_mul-le, div-le_of_le-mul}
use native.Mathlib.Omega.{arith}
use mathlib.Core.Bool.{Bool, true, false, ◌&&◌}
use lib.IntN.{ℤ}
use lib.Dec.{T, leb, ltb, eqb, leb→le, lt→ltb, ltb→lt, lit<}
use lib.Pow.{pow-add, pow_pos}
use lib.Ieee.{Float, nan, inf, fin, binary32, up, down, size, lt, fits, to_bits}
use lib.Ieee.Digits.{size-lt, size-le, size_reaches}
use lib.Ieee.Fits.{kept-lt, up_pos, down_pos, and_r}
use lib.Ieee.Bits.{is_true}
use lib.Ieee.Nearest.{div_mono}
use lib.Ieee.Scale.{finite}
use Rattle.bounds.specs.LowBits.{pattern_of, embed_of}
use Rattle.bounds.specs.Within.{at_most, Within}
use Rattle.bounds.proofs.Within.{is_finite}
use Rattle.bounds.proofs.LowBits.{embed_finite, embed_bits, embed_fits}

-- the bits of n of the smallest values, the sign left out
abbrev bits : ℕ → ℕ
bits n = (size n - 24) * 8388608 + n / 2 ^ (size n - 24)

-- a number that drops digits keeps the leading one
leading : (n : ℕ) → 0 < size n - 24 → 8388608 ≤ n / 2 ^ (size n - 24)
leading n h =
    let k = size n - 24 in
    (le-div_iff_mul-le (pow_pos k)).1 (le_trans (le_of_eq (sym (pow-add 2 23 k))) (size_reaches n (23 + k) (omega arith)))

bits_mono : (a b : ℕ) → a ≤ b → bits a ≤ bits b
bits_mono a b h =
    let j = size a - 24 in
    let k = size b - 24 in
    let sizes : size a ≤ size b = size-le a (size b) (lt_of_le_of_lt h (size-lt b)) in
    let fewer : j ≤ k = omega arith in
    elim (eq-or-lt_of_le fewer) [
      | inl e ↦ subst (λ (x : ℕ). x * 8388608 + a / 2 ^ x ≤ bits b) (sym e)
          (let q : a / 2 ^ k ≤ b / 2 ^ k = div_mono a (2 ^ k) b (2 ^ k) (pow_pos k) (pow_pos k) (mul-le-mul_right (2 ^ k) h) in omega arith)
      | inr l ↦
          let u : a / 2 ^ j < 16777216 = kept-lt 24 a in
          let v : 8388608 ≤ b / 2 ^ k = leading b (omega arith) in
          omega arith
    ]

-- a finite float in smallest values, and its bits
abbrev count : ℕ → ℤ → ℕ
count m e = m * up e * 2 ^ 149 / down e

minus_bits : (m : ℕ) (e : ℤ) → to_bits binary32 (fin true m e) ≡ 2147483648 + bits (count m e)
unfolding to_bits
minus_bits m e = add_assoc 2147483648 ((size (count m e) - 24) * 8388608) (count m e / 2 ^ (size (count m e) - 24))

plus_bits : (m : ℕ) (e : ℤ) → to_bits binary32 (fin false m e) ≡ bits (count m e)
unfolding to_bits
plus_bits m e = ap (λ (x : ℕ). x + count m e / 2 ^ (size (count m e) - 24)) (zero-add ((size (count m e) - 24) * 8388608))

-- a float that fits is below 2 ^ 128, so its bits without the sign are below the sign's
fits_under : (s : Bool) (m : ℕ) (e : ℤ) → T (fits binary32 (fin s m e)) → m * up e ≤ 2 ^ 128 * down e
unfolding fits
fits_under s zero e h = le_trans (le_of_eq (zero-mul (up e))) zero-le
fits_under s (suc m) e h =
    le_of_lt (ltb→lt (suc m * up e) (2 ^ 128 * down e)
    (and_r (eqb (suc m % 2) 1 && ltb (suc m) (2 ^ 24) && leb (down e) (2 ^ 149)) (ltb (suc m * up e) (2 ^ 128 * down e)) h))

bits_under : (s : Bool) (m : ℕ) (e : ℤ) → T (fits binary32 (fin s m e)) → bits (count m e) < 2147483648
unfolding size
bits_under s m e h =
    let top : m * up e * 2 ^ 149 ≤ down e * 2 ^ 277 =
    le_trans (mul-le-mul_right (2 ^ 149) (fits_under s m e h)) (le_of_eq (mul_right_comm (2 ^ 128) (down e) (2 ^ 149) ∙ mul_comm (2 ^ 277) (down e))) in
    lt_of_le_of_lt (bits_mono (count m e) (2 ^ 277) (div-le_of_le-mul (down e) top)) (lit< tt)

-- the bits of a float within p * 2 ^ r units that is not negative
bits_within : (p r m : ℕ) (e : ℤ) → T (at_most p r (fin false m e)) → bits (count m e) ≤ bits (p * 2 ^ r * 2 ^ 133)
bits_within p r m e h =
    bits_mono (count m e) (p * 2 ^ r * 2 ^ 133)
    (div-le_of_le-mul (down e) (le_trans (le_of_eq (sym (mul_assoc (m * up e) 65536 (2 ^ 133))))
    (le_trans (mul-le-mul_right (2 ^ 133) (leb→le (m * up e * 65536) (p * 2 ^ r * down e) h))
    (le_of_eq (mul_right_comm (p * 2 ^ r) (down e) (2 ^ 133) ∙ mul_comm (p * 2 ^ r * 2 ^ 133) (down e))))))

-- ---- v is within p * 2 ^ r units, and n * 2 ^ d is positive and well above that: so v with a number in its low seven bits is below n * 2 ^ d
module _ (p r n : ℕ) (d : ℤ) (N : 0 < n) (room : bits (p * 2 ^ r * 2 ^ 133) + 127 < bits (count n d)) where
  -- with the bits of v, and those of y, which is not negative
  swapped : (v : Float) (m : ℕ) (e : ℤ) (i : ℕ) → i < 128 → T (at_most p r v) → T (fits binary32 (fin false m e))
      → bits (count m e) ≡ to_bits binary32 v - to_bits binary32 v % 128 + i → bits (count m e) < bits (count n d)
  swapped nan m e i il h F q = absurd h
  swapped (inf s) m e i il h F q = absurd h
  swapped (fin true a k) m e i il h F q = let z = minus_bits a k in let b = bits_under false m e F in absurd (clash _ _ _ i z b q)
    where
      clash : (b c y i : ℕ) → b ≡ 2147483648 + c → y < 2147483648 → y ≡ b - b % 128 + i → ⊥
      clash b c y i e l q = omega arith
  swapped (fin false a k) m e i il h F q =
      let z = plus_bits a k in let b = bits_within p r a k h in under (to_bits binary32 (fin false a k)) (bits (count a k)) _ _ _ z b room q
    where
      under : (b c y u w : ℕ) → b ≡ c → c ≤ u → u + 127 < w → y ≡ b - b % 128 + i → y < w
      under b c y u w e l l' q = omega arith

  order : (m : ℕ) (e : ℤ) → bits (count m e) < bits (count n d) → m * up e * down d < n * up d * down e
  order m e h = lt_of_not-le (λ (g : n * up d * down e ≤ m * up e * down d). not-le_of_lt h (bits_mono (count n d) (count m e)
      (div_mono (n * up d * 2 ^ 149) (down d) (m * up e * 2 ^ 149) (down e) (down_pos d) (down_pos e)
      (le_trans (le_of_eq (mul_right_comm (n * up d) (2 ^ 149) (down e))) (le_trans (mul-le-mul_right (2 ^ 149) g)
      (le_of_eq (mul_right_comm (m * up e) (down d) (2 ^ 149))))))))

  under_start : (v y : Float) (i : ℕ) → i < 128 → T (at_most p r v) → T (finite y) → T (fits binary32 y)
      → to_bits binary32 y ≡ to_bits binary32 v - to_bits binary32 v % 128 + i → T (lt y (fin false n d))
  unfolding lt
  under_start v nan i il h f F q = absurd f
  under_start v (inf s) i il h f F q = absurd f
  under_start v (fin true m e) i il h f F q =
      lt→ltb 0 (m * up e * down d + n * up d * down e) (some (m * up e * down d) (mul-pos (mul-pos N (up_pos d)) (down_pos e)))
    where
      some : (a : ℕ) {b : ℕ} → 0 < b → 0 < a + b
      some a l = omega arith
  under_start v (fin false m e) i il h f F q =
      lt→ltb (m * up e * down d) (n * up d * down e) (order m e (swapped v m e i il h F (sym (plus_bits m e) ∙ q)))

  pub embed_under : (v : Float) (i : ℕ) → i < 128 → T (fits binary32 v) → Within p r v → lt (embed_of v i) (fin false n d) ≡ true
  unfolding pattern_of
  embed_under v i il F h =
      let f : T (finite v) = is_finite h in
      is_true (lt (embed_of v i) (fin false n d))
      (under_start v (embed_of v i) i il h.holds (embed_finite v i F f il) (embed_fits v i) (embed_bits v i F f il))

-- `is_root` where nothing is worked out: at the zeros, the infinities, the numbers below zero and NaN. `zero32` is the code's 0.0. Assumes nothing.
use mathlib.Core.Path.{◌≡◌, refl, sym, ap, ◌∙◌, subst⁻¹}
use mathlib.Core.Logic.{inl, inr}
use Prim.Native.Nat.{ℕ, zero, suc, ◌*◌, ◌≤◌, ◌<◌}
use native.Mathlib.Nat.{eq-zero-or-pos, lt_irrefl, lt_of_lt_of_le, mul-pos, zero-lt-suc}
use native.Mathlib.Omega.{arith}
use mathlib.Core.Bool.{Bool, true, false, not, ◌&&◌, ◌||◌, beq, true≢false}
use lib.IntN.{ℤ}
use lib.Dec.{T, eqb, eqb→eq}
use lib.Ieee.{Float, nan, inf, fin, binary32, up, down, of_bits, to_bits, is_nan, fits, lt, eq, ne, level, div}
use lib.Ieee.Fits.{up_pos, and_l}
use lib.Ieee.Bits.{of_bits-to_bits}
use borrow.Author.Tests.{lt-ltb, ltb-false, not-true, not-false}
use Rattle.root.specs.Root.{is_root}
use Rattle.root.proofs.Values.{plain_bits}

abbrev zero32 : Float
zero32 = of_bits binary32 0

false≢true : false ≡ true → ⊥
false≢true e = true≢false (sym e)

above_none : (m : ℕ) (e : ℤ) → 0 < suc m * up e
above_none m e = mul-pos (zero-lt-suc m) (up_pos e)

-- ---- 0.0 < x
pub above_no_nan : (x : Float) → lt zero32 x ≡ true → T (not (is_nan x))
unfolding lt of_bits is_nan
above_no_nan nan h = absurd (false≢true h)
above_no_nan (inf s) h = tt
above_no_nan (fin s m e) h = tt

not_above_zero : lt zero32 zero32 ≡ true → ⊥
unfolding lt of_bits
not_above_zero h = false≢true h

pub above_bits : (x : Float) → T (fits binary32 x) → lt zero32 x ≡ true → 0 < to_bits binary32 x
above_bits x f h = elim (eq-zero-or-pos (to_bits binary32 x)) [
  | inl e ↦ absurd (not_above_zero (subst⁻¹ (λ (y : Float). lt zero32 y ≡ true) (ap (of_bits binary32) (sym e) ∙ of_bits-to_bits binary32 x f) h))
  | inr p ↦ p
]

pub positive_bits : (m : ℕ) (e : ℤ) → T (fits binary32 (fin false (suc m) e)) → 0 < to_bits binary32 (fin false (suc m) e)
unfolding lt of_bits
positive_bits m e f = above_bits (fin false (suc m) e) f (lt-ltb (0 * 1 * down e) (suc m * up e * 1) (more (down e) (suc m * up e) (above_none m e)))
  where
    more : (d a : ℕ) → 0 < a → 0 * 1 * d < a * 1
    more d a h = omega arith

-- and no finite number: plus infinity
pub infinite : (x : Float) → T (fits binary32 x) → lt zero32 x ≡ true → 2139095040 ≤ to_bits binary32 x → T (is_root x x)
unfolding lt of_bits is_root
infinite nan f h k = absurd (false≢true h)
infinite (inf true) f h k = absurd (false≢true h)
infinite (inf false) f h k = tt
infinite (fin true m e) f h k = absurd (false≢true h)
infinite (fin false m e) f h k = absurd (lt_irrefl _ (lt_of_lt_of_le (plain_bits (fin false m e) f refl) k))

-- ---- not x != 0.0: a zero
pub zero_itself : (x : Float) → ne x zero32 ≡ false → T (is_root x x)
unfolding ne eq of_bits is_root
zero_itself nan h = absurd (true≢false h)
zero_itself (inf s) h = absurd (true≢false h)
zero_itself (fin true zero e) h = tt
zero_itself (fin false zero e) h = tt
zero_itself (fin s (suc m) e) h =
    let a = suc m * up e * 1 in
    let b = 0 * 1 * down e in
    let sign = beq s false || eqb a 0 in
    absurd (differ (suc m * up e) (down e) (above_none m e) (eqb→eq a b (and_l (eqb a b) sign (subst⁻¹ T (not-false (eqb a b && sign) h) tt))))
  where
    differ : (a d : ℕ) → 0 < a → a * 1 ≡ 0 * 1 * d → ⊥
    differ a d p h = omega arith

-- ---- x != 0.0, and not 0.0 < x: a number below zero, or NaN
zeros_level : (s : Bool) (a b : ℕ) → a ≡ 0 → b ≡ 0 → level s a false b ≡ true
zeros_level s a b p q = subst⁻¹ (λ (x : ℕ). level s x false b ≡ true) p (subst⁻¹ (λ (x : ℕ). level s 0 false x ≡ true) q (go s))
  where
    go : (s : Bool) → level s 0 false 0 ≡ true
    go true = refl
    go false = refl

pub no_root : (x : Float) → lt zero32 x ≡ false → ne x zero32 ≡ true → T (is_root x (div binary32 zero32 zero32))
unfolding lt ne eq of_bits is_root is_nan div
no_root nan h g = tt
no_root (inf true) h g = tt
no_root (inf false) h g = absurd (true≢false h)
no_root (fin s zero e) h g = absurd (true≢false (sym (zeros_level s (0 * up e * 1) (0 * 1 * down e) (omega arith) (omega arith)) ∙ not-true _ g))
no_root (fin true (suc m) e) h g = tt
no_root (fin false (suc m) e) h g = absurd (below (suc m * up e) (down e) (above_none m e) (ltb-false _ _ h))
  where
    below : (a d : ℕ) → 0 < a → a * 1 ≤ 0 * 1 * d → ⊥
    below a d p h = omega arith

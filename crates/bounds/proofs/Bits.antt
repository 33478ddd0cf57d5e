-- What is known of a float's bits: the tests by which code tells a NaN, and that the bits of a finite number lie below the infinity's. Assumes nothing.
-- 2139095040 is 0x7f80_0000, the bits of plus infinity, and 2147483648 is 2 ^ 31, the weight of the sign.
use mathlib.Core.Path.{◌≡◌, refl, sym, ap, ◌∙◌, subst}
use mathlib.Core.Logic.{◌⊎◌, inl, inr, ⊎_elim}
use Prim.Native.Nat.{ℕ, ◌%◌, ◌≤◌, ◌<◌}
use native.Mathlib.Omega.{arith}
use native.Mathlib.Nat.{eq-or-lt_of_le}
use mathlib.Core.Bool.{Bool, true, false, not, true≢false}
use lib.Dec.{T, ltb, lt→ltb, ltb→lt, nltb→le, not_T}
use lib.Ieee.{Float, nan, inf, fin, binary32, fits, ne, is_nan, nan_bits, to_bits, of_bits}
use lib.Ieee.Bits.{of_bits-to_bits, to_bits-lt, to_bits-of_bits, nan_bits_is, nan_bits_above}
use lib.Ieee.Compare.{nan_differs}
use lib.Ieee.Scale.{finite}
use Rattle.bounds.proofs.Laws.{no_nan}

-- ---- a NaN differs from itself, and so does nothing else
pub equals_itself : (x : Float) → ne x x ≡ false → T (not (is_nan x))
unfolding is_nan
equals_itself nan e = absurd (true≢false (sym nan_differs ∙ e))
equals_itself (inf s) e = tt
equals_itself (fin s m d) e = tt

is_nan_lem : (x : Float) → T (is_nan x) → x ≡ nan
unfolding is_nan
is_nan_lem nan t = refl
is_nan_lem (inf s) t = absurd t
is_nan_lem (fin s m d) t = absurd t

-- ---- bits above the infinity's, the sign left out, are a NaN's, and no others are
pub pattern_nan : (n : ℕ) → 2139095040 < n % 2147483648 → of_bits binary32 n ≡ nan
pattern_nan n h = is_nan_lem (of_bits binary32 n) (subst T (sym (nan_bits_above binary32 n) ∙ nan_bits_is binary32 n) (lt→ltb 2139095040 (n % 2147483648) h))

pub pattern_ok : (n : ℕ) → n % 2147483648 ≤ 2139095040 → T (not (nan_bits binary32 n))
pattern_ok n h = subst (λ (b : Bool). T (not b)) (sym (nan_bits_above binary32 n))
    (not_T (ltb 2139095040 (n % 2147483648)) (λ t. clash (n % 2147483648) h (ltb→lt 2139095040 (n % 2147483648) t)))
  where
    clash : (r : ℕ) → r ≤ 2139095040 → 2139095040 < r → ⊥
    clash r a b = omega arith

no_nan_bits : (n : ℕ) → T (not (nan_bits binary32 n)) → n % 2147483648 ≤ 2139095040
no_nan_bits n h = nltb→le 2139095040 (n % 2147483648) (subst (λ (b : Bool). T (not b)) (nan_bits_above binary32 n) h)

-- ---- the infinities
pos_inf : of_bits binary32 2139095040 ≡ inf false
unfolding of_bits
pos_inf = refl

neg_inf : of_bits binary32 4286578688 ≡ inf true
unfolding of_bits
neg_inf = refl

bits_inf : (s : Bool) → to_bits binary32 (inf s) % 2147483648 ≡ 2139095040
unfolding to_bits
bits_inf true = refl
bits_inf false = refl

either_sign : (b : ℕ) → b < 4294967296 → b % 2147483648 ≡ 2139095040 → (b ≡ 2139095040) ⊎ (b ≡ 4286578688)
either_sign b h e = go (ltb b 2147483648) (ltb→lt b 2147483648) (nltb→le b 2147483648)
  where
    small : b < 2147483648 → b ≡ 2139095040
    small l = omega arith

    large : 2147483648 ≤ b → b ≡ 4286578688
    large l = omega arith

    go : (t : Bool) → (T t → b < 2147483648) → (T (not t) → 2147483648 ≤ b) → (b ≡ 2139095040) ⊎ (b ≡ 4286578688)
    go true l g = inl (small (l tt))
    go false l g = inr (large (g tt))

-- ---- the bits of a finite number, the sign left out, are below the infinity's, and such bits are a finite number's
pub finite_bits : (v : Float) → T (fits binary32 v) → T (finite v) → to_bits binary32 v % 2147483648 < 2139095040
finite_bits v F h =
    let b = to_bits binary32 v in
    let back : of_bits binary32 b ≡ v = of_bits-to_bits binary32 v F in
    let le : b % 2147483648 ≤ 2139095040 = no_nan_bits b (subst (λ (t : Bool). T (not t)) (sym (nan_bits_is binary32 b ∙ ap is_nan back)) (no_nan v h)) in
    let not_inf : (q : ℕ) (s : Bool) → b ≡ q → of_bits binary32 q ≡ inf s → ⊥ =
    λ q s e i. subst (λ (x : Float). T (finite x)) (sym back ∙ ap (of_bits binary32) e ∙ i) h in
    ⊎_elim
    (λ e. absurd (⊎_elim (λ q. not_inf 2139095040 false q pos_inf) (λ q. not_inf 4286578688 true q neg_inf) (either_sign b (to_bits-lt binary32 v F) e)))
    (λ l. l)
    (eq-or-lt_of_le le)

pub bits_finite : (n : ℕ) → n < 4294967296 → n % 2147483648 < 2139095040 → T (finite (of_bits binary32 n))
unfolding is_nan
bits_finite n N h = go (of_bits binary32 n) refl
  where
    under : n % 2147483648 ≤ 2139095040
    under = omega arith

    ok : T (not (is_nan (of_bits binary32 n)))
    ok = subst (λ (b : Bool). T (not b)) (nan_bits_is binary32 n) (pattern_ok n under)

    clash : (r : ℕ) → r < 2139095040 → r ≡ 2139095040 → ⊥
    clash r a b = omega arith

    go : (w : Float) → of_bits binary32 n ≡ w → T (finite w)
    go nan e = absurd (subst (λ (x : Float). T (not (is_nan x))) e ok)
    go (inf s) e = absurd (clash (n % 2147483648) h (ap (λ (x : ℕ). x % 2147483648) (sym (to_bits-of_bits binary32 n N ok) ∙ ap (to_bits binary32) e)
        ∙ bits_inf s))
    go (fin s m d) e = tt

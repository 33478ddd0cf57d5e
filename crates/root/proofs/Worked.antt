-- The two statements of the contract agree: `root_of x`, which antt can compute, passes `is_root x`, and so it is what any value that passes is equal
-- to. Assumes nothing.
use mathlib.Core.Path.{◌≡◌, refl, sym, ap, ◌∙◌, subst, subst⁻¹}
use mathlib.Core.Logic.{inl, inr}
use Prim.Native.Nat.{ℕ, zero, suc, ◌+◌, ◌-◌, ◌*◌, ◌/◌, ◌^◌, ◌≤◌, ◌<◌}
use native.Mathlib.Nat.{le_trans, le_of_eq, lt_of_lt_of_le, lt_of_le_of_lt, lt_of_not-le, lt_irrefl, mul-mul-mul_comm, mul-le-mul_right}
use native.Mathlib.Nat.{mul-lt-mul_of_pos_right, mul-pos, mul-div_cancel, pow-succ'}
use native.Mathlib.Omega.{arith}
use mathlib.Core.Bool.{Bool, true, false, not, cond}
use lib.IntN.{ℤ}
use lib.Dec.{T, leb, leb→le, nleb→lt}
use lib.Count.{count_leading_zeros}
use lib.Pow.{pow-add, pow_pos, pow_mono}
use lib.Ieee.{Float, nan, inf, fin, binary32, up, down, size, fits, is_nan, to_bits, of_bits}
use lib.Ieee.Digits.{size-lt, size-le}
use lib.Ieee.Fits.{down_pos, nan-fits, inf-fits}
use lib.Ieee.Bits.{of_bits-to_bits, of_bits-fits}
use Rattle.root.specs.Root.{sq, units, root_bits, is_root, grow, isqrt, pick, pattern, root_of}
use Rattle.root.proofs.Normal.{Norm, split, lead, subnormal, normal}
use Rattle.root.proofs.Rounding.{radicand, good, radicand_is, rooted}
use Rattle.root.proofs.Values.{of_bits_lem, same_size, unit_size, plain_bits}
use Rattle.root.proofs.Squares.{Near, next}
use Rattle.root.proofs.Special.{positive_bits}
use Rattle.root.proofs.Unique.{unique}

chosen : (P : ℕ → Type 0) (b : Bool) {x y : ℕ} → (T b → P x) → (T (not b) → P y) → P (cond b x y)
chosen P true f g = f tt
chosen P false f g = g tt

-- ---- `isqrt` is the root rounded down
abbrev Floor : ℕ → ℕ → Type 0
Floor n r = (sq r ≤ n) × (n < sq (r + 1))

grow_floor : (n r : ℕ) → sq r ≤ n → n < sq (r + 2) → Floor n (grow n r)
grow_floor n r h k =
    chosen (Floor n) (leb (sq (r + 1)) n)
    (λ (g : T (leb (sq (r + 1)) n)). (leb→le (sq (r + 1)) n g, subst (λ (x : ℕ). n < sq x) (two r) k))
    (λ (g : T (not (leb (sq (r + 1)) n))). (h, nleb→lt (sq (r + 1)) n g))
  where
    two : (r : ℕ) → r + 2 ≡ r + 1 + 1
    two r = omega arith

floor : (k n : ℕ) → n < 4 ^ k → Floor n (isqrt k n)
unfolding isqrt
floor zero n h = (omega arith, omega arith)
floor (suc k) n h =
    let r = isqrt k (n / 4) in
    let ih = floor k (n / 4) (quarter (4 ^ k) (subst (λ (x : ℕ). n < x) (pow-succ' 4 k) h)) in
    grow_floor n (2 * r)
    (le_trans (le_of_eq (mul-mul-mul_comm 2 r 2 r)) (down (sq r) ih.0))
    (lt_of_lt_of_le (up (sq (r + 1)) ih.1) (le_of_eq (sym (mul-mul-mul_comm 2 (r + 1) 2 (r + 1)) ∙ ap sq (apart r))))
  where
    quarter : (p : ℕ) → n < 4 * p → n / 4 < p
    quarter p h = omega arith

    down : (s : ℕ) → s ≤ n / 4 → 4 * s ≤ n
    down s h = omega arith

    up : (s : ℕ) → n / 4 < s → n < 4 * s
    up s h = omega arith

    apart : (r : ℕ) → 2 * (r + 1) ≡ 2 * r + 2
    apart r = omega arith

-- ---- `pick` is the root rounded to nearest
near : (n t : ℕ) → 0 < n → Floor n t → Near n (pick n t)
near n t p f =
    chosen (Near n) (leb n (sq t + t))
    (λ (h : T (leb n (sq t + t))). (below t f.0 f.1, leb→le n (sq t + t) h))
    (λ (h : T (not (leb n (sq t + t)))). (omega (arith, next t, nleb→lt n (sq t + t) h), omega (arith, next t, f.1)))
  where
    below : (t : ℕ) → sq t ≤ n → n < sq (t + 1) → t * t < n + t
    below zero a b = omega arith
    below (suc t) a b = omega arith

-- ---- `pattern` cuts 2 ^ k * 2 ^ k off again
between : (z k : ℕ) → 46 + (k + k) < z → z ≤ 48 + (k + k) → (z - 47) / 2 ≡ k
between z k a b = omega arith

cut : (n N k : ℕ) → 70368744177664 ≤ N → N ≤ 281474959933440 → n ≡ N * (2 ^ k * 2 ^ k) → (size n - 47) / 2 ≡ k
cut n N k lo hi e =
    let p = 2 ^ k * 2 ^ k in
    let s : 2 ^ (k + k) ≡ p = pow-add 2 k k in
    let low : 2 ^ (46 + (k + k)) ≤ n = le_trans (le_of_eq (pow-add 2 46 (k + k) ∙ ap (λ (x : ℕ). 2 ^ 46 * x) s))
    (le_trans (mul-le-mul_right p lo) (le_of_eq (sym e))) in
    let high : n < 2 ^ (48 + (k + k)) =
    lt_of_le_of_lt (le_of_eq e) (lt_of_lt_of_le (mul-lt-mul_of_pos_right (room N hi) (mul-pos (pow_pos k) (pow_pos k)))
    (le_of_eq (sym (pow-add 2 48 (k + k) ∙ ap (λ (x : ℕ). 2 ^ 48 * x) s)))) in
    between (size n) k (lt_of_not-le (λ (g : size n ≤ 46 + (k + k)). lt_irrefl n (lt_of_lt_of_le (size-lt n) (le_trans (pow_mono g) low))))
    (size-le n (48 + (k + k)) high)
  where
    room : (N : ℕ) → N ≤ 281474959933440 → N < 2 ^ 48
    room N h = omega arith

abbrev worked : ℕ → ℕ
worked N = pick N (isqrt 24 N)

pattern_is : (n N k : ℕ) → 70368744177664 ≤ N → N ≤ 281474959933440 → n ≡ N * (2 ^ k * 2 ^ k) → pattern n ≡ k * 8388608 + worked N
unfolding pattern
pattern_is n N k lo hi e =
    let p = 2 ^ k * 2 ^ k in
    let kept : n / p ≡ N = ap (λ (x : ℕ). x / p) e ∙ mul-div_cancel N (mul-pos (pow_pos k) (pow_pos k)) in
    ap (λ (j : ℕ). j * 8388608 + worked (n / (2 ^ j * 2 ^ j))) (cut n N k lo hi e) ∙ ap (λ (x : ℕ). k * 8388608 + worked x) kept

-- ---- a finite number above zero
of_norm : (b m a : ℕ) → Norm b m a → T (root_bits (units b * 2 ^ 149) 1 (pattern (units b * 2 ^ 149)))
of_norm b m a h =
    let N = radicand m a in
    let g = good m a h.lo h.hi in
    subst⁻¹ (λ (x : ℕ). T (root_bits (units b * 2 ^ 149) 1 x)) (pattern_is (units b * 2 ^ 149) N (a / 2) g.1 g.2 (sym (radicand_is b m a h)))
    (rooted b m a (worked N) _ h (near N (isqrt 24 N) (some N g.1) (floor 24 N (room N g.2))) refl)
  where
    some : (N : ℕ) → 70368744177664 ≤ N → 0 < N
    some N h = omega arith

    room : (N : ℕ) → N ≤ 281474959933440 → N < 4 ^ 24
    room N h = omega arith

of_pattern : (b : ℕ) → 0 < b → b < 2139095040 → T (root_bits (units b * 2 ^ 149) 1 (pattern (units b * 2 ^ 149)))
of_pattern b p h = elim (split b 8388608) [
  | inl g ↦ of_norm b _ _ (subnormal b (count_leading_zeros 32 b - 8) _ _ p g (omega (arith, lead b p g)) refl refl)
  | inr g ↦ of_norm b _ _ (normal b _ _ g h refl refl)
]

opened : (m : ℕ) (e : ℤ) (u : ℕ) → suc m * up e * 2 ^ 149 ≡ u * down e → root_of (fin false (suc m) e) ≡ of_bits binary32 (pattern (u * 2 ^ 149))
unfolding root_of
opened m e u h =
    ap (λ (n : ℕ). of_bits binary32 (pattern n)) (ap (λ (x : ℕ). x / down e) (sym (same_size (suc m * up e) (down e) u h))
    ∙ mul-div_cancel (u * 2 ^ 149) (down_pos e))

finite : (m : ℕ) (e : ℤ) → T (fits binary32 (fin false (suc m) e)) → T (is_root (fin false (suc m) e) (root_of (fin false (suc m) e)))
finite m e f =
    let x = fin false (suc m) e in
    let b = to_bits binary32 x in
    let p : 0 < b = positive_bits m e f in
    let h : b < 2139095040 = plain_bits x f refl in
    subst⁻¹ (λ (r : Float). T (is_root x r)) (opened m e (units b) (unit_size (suc m) e f))
    (of_bits_lem x b (pattern (units b * 2 ^ 149)) (of_bits-to_bits binary32 x f) p h (of_pattern b p h))

-- ---- any value
pub root_of_lem : (x : Float) → T (fits binary32 x) → T (is_root x (root_of x))
root_of_lem nan f = unfold is_root root_of is_nan in tt
root_of_lem (inf true) f = unfold is_root root_of is_nan in tt
root_of_lem (inf false) f = unfold is_root root_of in tt
root_of_lem (fin true zero e) f = unfold is_root root_of in tt
root_of_lem (fin false zero e) f = unfold is_root root_of in tt
root_of_lem (fin true (suc m) e) f = unfold is_root root_of is_nan in tt
root_of_lem (fin false (suc m) e) f = finite m e f

pub root_fits : (x : Float) → T (fits binary32 x) → T (fits binary32 (root_of x))
unfolding root_of
root_fits nan f = nan-fits binary32
root_fits (inf true) f = nan-fits binary32
root_fits (inf false) f = inf-fits binary32 false
root_fits (fin s zero e) f = f
root_fits (fin true (suc m) e) f = nan-fits binary32
root_fits (fin false (suc m) e) f = of_bits-fits binary32 (pattern (suc m * up e * 2 ^ 298 / down e))

pub is_root_of : (x r : Float) → T (fits binary32 x) → T (fits binary32 r) → T (is_root x r) → r ≡ root_of x
is_root_of x r f g t = unique x r (root_of x) g (root_fits x f) t (root_of_lem x f)

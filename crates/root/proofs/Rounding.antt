-- The whole number nearest to the root of the radicand gives the digits of the rounded root: the pattern made of it passes `root_bits`. Assumes nothing.
use mathlib.Core.Path.{◌≡◌, sym, ap, ◌∙◌, subst}
use Prim.Native.Nat.{ℕ, zero, suc, ◌+◌, ◌*◌, ◌/◌, ◌%◌, ◌^◌, ◌≤◌, ◌<◌}
use native.Mathlib.Nat.{le_trans, le_of_eq, lt_of_lt_of_le, lt_of_le_of_lt, mul_assoc, mul-one, mul-le-mul_right, mul-lt-mul_of_pos_right}
use native.Mathlib.Nat.{mul-mul-mul_comm, mul-pos}
use native.Mathlib.Omega.{arith}
use lib.Pow.{pow-add, pow_pos}
use lib.Dec.{T}
use Rattle.root.specs.Root.{sq, sig, place, units, lower, upper, root_bits}
use Rattle.root.proofs.Squares.{Near, in_range, square_up, square_down}
use Rattle.root.proofs.Facts.{Rounded, tests}
use Rattle.root.proofs.Normal.{Norm}

-- ---- the radicand has 47 or 48 digits, and what is left of the exponent is even
abbrev pub radicand : ℕ → ℕ → ℕ
radicand m a = m * 2 ^ (23 + a % 2)

-- the code's shift gives it, and `nearest` takes it
abbrev Good : ℕ → ℕ → Type 0
Good m odd = (m * 8388608 * 2 ^ odd % 2 ^ 64 ≡ m * 2 ^ (23 + odd)) × (70368744177664 ≤ m * 2 ^ (23 + odd)) × (m * 2 ^ (23 + odd) ≤ 281474959933440)

pub good : (m a : ℕ) → 8388608 ≤ m → m < 16777216 → Good m (a % 2)
good m a lo hi = go (a % 2) (omega arith)
  where
    go : (odd : ℕ) → odd < 2 → Good m odd
    go zero h = (omega arith, omega arith, omega arith)
    go (suc zero) h = (omega arith, omega arith, omega arith)
    go (suc (suc r)) h = absurd (not h)
      where
        not : suc (suc r) < 2 → ⊥
        not g = omega arith

pub radicand_is : (b m a : ℕ) → Norm b m a → radicand m a * (2 ^ (a / 2) * 2 ^ (a / 2)) ≡ units b * 2 ^ 149
radicand_is b m a h =
    let k = a / 2 in
    mul_assoc m (2 ^ (23 + a % 2)) (2 ^ k * 2 ^ k)
    ∙ ap (λ (x : ℕ). m * (2 ^ (23 + a % 2) * x)) (sym (pow-add 2 k k))
    ∙ ap (λ (x : ℕ). m * x) (sym (pow-add 2 (23 + a % 2) (k + k)) ∙ ap (λ (x : ℕ). 2 ^ x) (halves a) ∙ pow-add 2 a 23)
    ∙ sym (mul_assoc m (2 ^ a) (2 ^ 23))
    ∙ ap (λ (x : ℕ). x * 2 ^ 23) (sym h.is)
    ∙ mul_assoc (units b) (2 ^ 126) (2 ^ 23)
  where
    halves : (a : ℕ) → 23 + a % 2 + (a / 2 + a / 2) ≡ a + 23
    halves a = omega arith

-- ---- the tests at the place k: both sides of each order times the square of 2 ^ k
spread : (n q k : ℕ) → 70368744177664 ≤ n → 8388608 ≤ q → Near n q → Rounded (n * (2 ^ k * 2 ^ k)) 1 q k
spread n q k lo low w =
    let p = 2 ^ k in
    let pp = p * p in
    let some : 0 < pp = mul-pos (pow_pos k) (pow_pos k) in
    let down : lower q * lower q < 4 * n = omega (arith, square_down q (omega arith)) in
    let up : 4 * n < upper q * upper q = omega (arith, square_up q) in
    record {
      at = le_trans (le_of_eq (squared 8388608 p)) (mul-le-mul_right pp lo);
      over = lt_of_le_of_lt (le_of_eq (squared (lower q) p)) (lt_of_lt_of_le (mul-lt-mul_of_pos_right down some) (le_of_eq (mul_assoc 4 n pp)));
      under = lt_of_le_of_lt (le_of_eq (sym (mul_assoc 4 n pp))) (lt_of_lt_of_le (mul-lt-mul_of_pos_right up some) (le_of_eq (sym (squared (upper q) p))));
    }
  where
    squared : (x p : ℕ) → sq (x * p) * 1 ≡ x * x * (p * p)
    squared x p = mul-one (x * p * (x * p)) ∙ mul-mul-mul_comm x p x p

-- ---- the pattern
pub rooted : (b m a q r : ℕ) → Norm b m a → Near (radicand m a) q → r ≡ a / 2 * 8388608 + q → T (root_bits (units b * 2 ^ 149) 1 r)
rooted b m a q r h w e =
    let k = a / 2 in
    let g = good m a h.lo h.hi in
    let range = in_range (radicand m a) q g.1 g.2 w in
    let digits : q ≡ sig r = omega arith in
    let exponent : k ≡ place r = omega arith in
    let at : Rounded (units b * 2 ^ 149) 1 q k = subst (λ (x : ℕ). Rounded x 1 q k) (radicand_is b m a h) (spread (radicand m a) q k g.1 range.0 w) in
    tests (units b * 2 ^ 149) 1 r
    (record {
      lo = omega (arith, h.first);
      hi = omega (arith, h.last);
      is = subst (λ (x : ℕ). Rounded (units b * 2 ^ 149) 1 x (place r)) digits (subst (λ (x : ℕ). Rounded (units b * 2 ^ 149) 1 q x) exponent at);
    })

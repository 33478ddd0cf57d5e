-- Products, neighbouring squares, and the whole number nearest to a root. Assumes nothing.
use mathlib.Core.Path.{◌≡◌, subst}
use Prim.Native.Nat.{ℕ, zero, suc, ◌+◌, ◌-◌, ◌*◌, ◌≤◌, ◌<◌}
use native.Mathlib.Nat.{le_of_lt, lt_of_le_of_lt, lt_of_not-le, mul-add, add-mul, mul-le-mul, mul-le-mul_left, mul-le-mul_right}
use native.Mathlib.Nat.{mul-lt-mul_of_pos_right, mul-mul-mul_comm}
use native.Mathlib.Omega.{arith}

pub product : {a b k l : ℕ} → a < k → b < l → a * b < k * l
product {a} h g = lt_of_le_of_lt (mul-le-mul_left a (le_of_lt g)) (mul-lt-mul_of_pos_right h (some g))
  where
    some : {b l : ℕ} → b < l → 0 < l
    some h = omega arith

-- ---- neighbouring squares
pub next : (t : ℕ) → (t + 1) * (t + 1) ≡ t * t + 2 * t + 1
next t = omega (arith, mul-add (t + 1) t 1, add-mul t 1 t)

previous : (t : ℕ) → 1 ≤ t → t * t ≡ (t - 1) * (t - 1) + 2 * (t - 1) + 1
previous t h = subst (λ (x : ℕ). x * x ≡ (t - 1) * (t - 1) + 2 * (t - 1) + 1) (back t h) (next (t - 1))
  where
    back : (t : ℕ) → 1 ≤ t → t - 1 + 1 ≡ t
    back t h = omega arith

pub square_up : (q : ℕ) → (2 * q + 1) * (2 * q + 1) ≡ 4 * (q * q) + 4 * q + 1
square_up q = omega (arith, next (2 * q), mul-mul-mul_comm 2 q 2 q)

pub square_down : (q : ℕ) → 1 ≤ q → (2 * q - 1) * (2 * q - 1) + 4 * q ≡ 4 * (q * q) + 1
square_down q h = omega (arith, previous (2 * q) (omega arith), mul-mul-mul_comm 2 q 2 q)

-- ---- q is the whole number nearest to √n: n is above (q - 1/2) ^ 2 and below (q + 1/2) ^ 2, each less its quarter
abbrev pub Near : ℕ → ℕ → Type 0
Near n q = (q * q < n + q) × (n ≤ q * q + q)

pub positive : (n q : ℕ) → 1 ≤ n → n ≤ q * q + q → 1 ≤ q
positive n zero h g = omega arith
positive n (suc p) h g = omega arith

pub one_less : (n q : ℕ) → 1 ≤ q → n + q ≤ q * q → n ≤ (q - 1) * (q - 1) + (q - 1)
one_less n q h g = omega (arith, previous q h)

pub small : (n q : ℕ) → n ≤ 281474959933440 → q * q < n + q → q < 16777216
small n q h g = lt_of_not-le (λ (k : 16777216 ≤ q). not (mul-le-mul_right q k) k)
  where
    not : 16777216 * q ≤ q * q → 16777216 ≤ q → ⊥
    not l k = omega arith

-- a radicand of 47 or 48 binary digits has a root of 24
pub in_range : (n q : ℕ) → 70368744177664 ≤ n → n ≤ 281474959933440 → Near n q → (8388608 ≤ q) × (q < 16777216)
in_range n q lo hi w = (large, small n q hi w.0)
  where
    not : q ≤ 8388607 → q * q ≤ 8388607 * 8388607 → ⊥
    not k l = omega (arith, w.1)

    large : 8388608 ≤ q
    large = lt_of_not-le (λ (k : q ≤ 8388607). not k (mul-le-mul k k))

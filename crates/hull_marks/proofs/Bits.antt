-- One bit of a word: it is read where it was set, and each other bit stays as it was. Assumes nothing.
use mathlib.Core.Path.{◌≡◌, ap, ◌∙◌}
use mathlib.Core.Bool.{◌||◌}
use Prim.Native.Nat.{ℕ, suc, ◌+◌, ◌-◌, ◌*◌, ◌/◌, ◌%◌, ◌^◌, ◌<◌, max}
use native.Mathlib.Nat.{div-eq_of_lt, div_self, pow-suc, one-mul}
use native.Mathlib.Omega.{arith}
use lib.Bits.{bit_or, or_shr, or_step}
use lib.Dec.{eqb, ltb, lit<}
use lib.Pow.{pow-lt, pow_pos, pow-add, shl-shr, shl_exact}
use borrow.Author.Tests.{eqb-true, eqb-false, eq-eqb, ltb-true, ltb-false}
use Rattle.hull_links.proofs.Tests.{cases}
use Rattle.hull_marks.specs.inner.Marks.{bit_of}

-- a 1 shifted by less than 64 places loses nothing
pub one_bit : (b : ℕ) → b < 64 → 1 * 2 ^ b % 2 ^ 64 ≡ 2 ^ b
one_bit b h = shl_exact 1 b 64 (lit< tt) (omega arith) ∙ one-mul (2 ^ b)

-- ---- 2 ^ e has bit e and no other
higher_power : (d k : ℕ) → 2 ^ (suc d + k) / 2 ^ k % 2 ≡ 0
higher_power d k =
    let a : 2 ^ (suc d + k) / 2 ^ k ≡ 2 ^ suc d = ap (λ (x : ℕ). x / 2 ^ k) (pow-add 2 (suc d) k) ∙ shl-shr (2 ^ suc d) k in
    omega (arith, a, pow-suc 2 d)

other_power : (e k : ℕ) → (e ≡ k → ⊥) → 2 ^ e / 2 ^ k % 2 ≡ 0
other_power e k q =
    cases (ltb e k) (λ t. omega (arith, div-eq_of_lt (pow-lt (ltb-true e k t))))
    (λ t. let d : suc (e - k - 1) + k ≡ e = omega (arith, ltb-false e k t, q) in rw d at (higher_power (e - k - 1) k))

-- ---- bit k of `w or 2 ^ e` is the greater of the two bits
or_bit : (w e k : ℕ) → bit_or w (2 ^ e) / 2 ^ k % 2 ≡ max (w / 2 ^ k % 2) (2 ^ e / 2 ^ k % 2)
or_bit w e k = ap (λ (x : ℕ). x % 2) (or_shr w (2 ^ e) k) ∙ omega (arith, or_step (w / 2 ^ k) (2 ^ e / 2 ^ k))

pub bit_set : (w e k : ℕ) → eqb (bit_of (bit_or w (2 ^ e)) k) 1 ≡ (eqb e k || eqb (bit_of w k) 1)
unfolding bit_of
bit_set w e k =
    cases (eqb e k)
    (λ t.
    let one : 2 ^ e / 2 ^ k ≡ 1 = rw (eqb-true e k t) (div_self (pow_pos k)) in
    rw t (eq-eqb (bit_or w (2 ^ e) / 2 ^ k % 2) 1 (omega (arith, or_bit w e k))))
    (λ t.
    let kept : bit_or w (2 ^ e) / 2 ^ k % 2 ≡ w / 2 ^ k % 2 = omega (arith, or_bit w e k, other_power e k (eqb-false e k t)) in
    rw t (ap (λ (x : ℕ). eqb x 1) kept))

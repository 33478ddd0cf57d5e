-- A pattern r that passes `root_bits` stands for the value nearest to the root: for any other pattern y, with R and Y for their units, the root is on
-- R's side of (R + Y) / 2. So a larger number has no smaller pattern, and at most one pattern passes. Assumes nothing.
use mathlib.Core.Path.{◌≡◌, refl, sym, ap, ◌∙◌, subst, subst⁻¹}
use mathlib.Core.Logic.{◌⊎◌, inl, inr}
use Prim.Native.Nat.{ℕ, suc, ◌+◌, ◌*◌, ◌^◌, ◌≤◌, ◌<◌}
use native.Mathlib.Nat.{le_trans, le_of_eq, le_of_lt, lt_of_lt_of_le, lt_of_le_of_lt, eq-or-lt_of_le, mul_assoc, mul-one, add-mul, mul-le-mul}
use native.Mathlib.Nat.{mul-le-mul_left, mul-le-mul_right, mul-lt-mul_of_pos_right, mul-mul-mul_comm, mul_right_comm, pow-succ', add_comm, le_antisymm}
use native.Mathlib.Omega.{arith}
use lib.Pow.{pow_pos, pow_mono}
use Rattle.root.specs.Root.{sq, sig, place, units, lower, upper}
use Rattle.root.proofs.Squares.{product}
use Rattle.root.proofs.Facts.{Rooted}
use Rattle.root.proofs.Normal.{units_low, units_high, split}

-- ---- the patterns beside r
double : (k : ℕ) → 16777216 * 2 ^ k ≡ 8388608 * 2 ^ suc k
double k = mul_assoc 8388608 2 (2 ^ k) ∙ ap (λ (x : ℕ). 8388608 * x) (sym (pow-succ' 2 k))

places : (r y : ℕ) → r ≤ y → place r ≤ place y
places r y h = omega arith

digits : (r y : ℕ) → 8388608 ≤ r → r < y → place r ≡ place y → sig r + 1 ≤ sig y
digits r y n h e = omega arith

most : (r : ℕ) → sig r < 16777216
most r = omega arith

pub least : (r : ℕ) → 8388608 ≤ sig r
least r = omega arith

-- a larger pattern's value is above R by a last digit of R at least
pub above : (r y : ℕ) → 8388608 ≤ r → r < y → (sig r + 1) * 2 ^ place r ≤ units y
above r y n h =
    let k = place r in
    subst⁻¹ (λ (u : ℕ). (sig r + 1) * 2 ^ k ≤ u) (units_high y (omega arith))
    (elim (eq-or-lt_of_le (places r y (omega arith))) [
      | inl e ↦ subst (λ (x : ℕ). (sig r + 1) * 2 ^ k ≤ sig y * 2 ^ x) e (mul-le-mul_right (2 ^ k) (digits r y n h e))
      | inr l ↦ le_trans (mul-le-mul_right (2 ^ k) (next r (most r))) (le_trans (le_of_eq (double k)) (mul-le-mul (least y) (pow_mono l)))
    ])
  where
    next : (r : ℕ) → sig r < 16777216 → sig r + 1 ≤ 16777216
    next r h = omega arith

-- a smaller pattern's value has R's place and smaller digits, or is below all that have R's place
below : (r y : ℕ) → 8388608 ≤ r → y < r → ((sig y + 1 ≤ sig r) × (units y ≡ sig y * 2 ^ place r)) ⊎ (units y < 8388608 * 2 ^ place r)
below r y n h =
    let k = place r in
    elim (split y 8388608) [
      | inl g ↦ inr (subst⁻¹ (λ (u : ℕ). u < 8388608 * 2 ^ k) (units_low y g)
          (lt_of_lt_of_le g (le_trans (le_of_eq (sym (mul-one 8388608))) (mul-le-mul_left 8388608 (pow_pos k)))))
      | inr g ↦
          elim (eq-or-lt_of_le (places y r (le_of_lt h))) [
            | inl e ↦ inl (digits y r g h e, units_high y g ∙ ap (λ (x : ℕ). sig y * 2 ^ x) e)
            | inr l ↦
                inr (subst⁻¹ (λ (u : ℕ). u < 8388608 * 2 ^ k) (units_high y g)
                (lt_of_lt_of_le (mul-lt-mul_of_pos_right (most y) (pow_pos (place y)))
                (le_trans (le_of_eq (double (place y))) (mul-le-mul_left 8388608 (pow_mono l)))))
          ]
    ]

-- ---- squares are in the order of the numbers
square_le : {m n : ℕ} (c : ℕ) → m ≤ n → sq m * c ≤ sq n * c
square_le c h = mul-le-mul_right c (mul-le-mul h h)

square_lt : {m n c : ℕ} → 0 < c → m < n → sq m * c < sq n * c
square_lt p h = mul-lt-mul_of_pos_right (product h h) p

twice_square : (n c : ℕ) → sq (2 * n) * c ≡ 4 * (sq n * c)
twice_square n c = ap (λ (x : ℕ). x * c) (mul-mul-mul_comm 2 n 2 n) ∙ mul_assoc 4 (n * n) c

-- ---- R is nearest
module _ (a c r : ℕ) (p : 0 < c) (t : Rooted a c r) where
  pub nearer_above : (y : ℕ) → r < y → 4 * a < sq (units r + units y) * c
  nearer_above y h =
      lt_of_lt_of_le t.is.under
      (square_le c (le_trans (le_of_eq (sum (sig r) (2 ^ place r))) (add_le (le_of_eq (sym (units_high r t.lo))) (above r y t.lo h))))
    where
      sum : (q p : ℕ) → upper q * p ≡ q * p + (q + 1) * p
      sum q p = omega (arith, add-mul (2 * q) 1 p, add-mul q 1 p, mul_assoc 2 q p)

      add_le : {i j m n : ℕ} → i ≤ m → j ≤ n → i + j ≤ m + n
      add_le f g = omega arith

  -- the values below a power of two are twice as close together: where R is one, it is the first test of `rounds` that helps
  pub nearer_below : (y : ℕ) → y < r → sq (units r + units y) * c < 4 * a
  nearer_below y h =
      let p2 = 2 ^ place r in
      let q = sig r in
      let R : units r ≡ q * p2 = units_high r t.lo in
      elim (below r y t.lo h) [
        | inl w ↦
            lt_of_le_of_lt
            (square_le c (subst⁻¹ (λ (u : ℕ). units r + u ≤ lower q * p2) w.1 (subst⁻¹ (λ (u : ℕ). u + sig y * p2 ≤ lower q * p2) R
            (near q (sig y) p2 w.0))))
            t.is.over
        | inr w ↦
            elim (eq-or-lt_of_le (least r)) [
              | inl e ↦
                  let e' : units r ≡ 8388608 * p2 = R ∙ ap (λ (x : ℕ). x * p2) (sym e) in
                  lt_of_lt_of_le (square_lt p (subst⁻¹ (λ (u : ℕ). u + units y < 2 * (8388608 * p2)) e' (two (8388608 * p2) (units y) w)))
                  (le_trans (le_of_eq (twice_square (8388608 * p2) c)) (mul-le-mul_left 4 t.is.at))
              | inr l ↦
                  lt_of_le_of_lt
                  (square_le c (subst⁻¹ (λ (u : ℕ). u + units y ≤ lower q * p2) R (le_trans (far q p2 (units y) w) (near q 8388608 p2 (up q l)))))
                  t.is.over
            ]
      ]
    where
      near : (q s p : ℕ) → s + 1 ≤ q → q * p + s * p ≤ lower q * p
      near q s p h = le_trans (le_of_eq (sym (add-mul q s p))) (mul-le-mul_right p (less q s h))
        where
          less : (q s : ℕ) → s + 1 ≤ q → q + s ≤ lower q
          less q s h = omega arith

      two : (x u : ℕ) → u < x → x + u < 2 * x
      two x u h = omega arith

      far : (q p u : ℕ) → u < 8388608 * p → q * p + u ≤ q * p + 8388608 * p
      far q p u h = omega arith

      up : (q : ℕ) → 8388608 < q → 8388608 + 1 ≤ q
      up q h = omega arith

-- ---- so the pattern does not go down as a / c goes up, and only one pattern is the root's
pub ordered : (a c b d r s : ℕ) → 0 < c → 0 < d → a * d ≤ b * c → Rooted a c r → Rooted b d s → r ≤ s
ordered a c b d r s C D h f g = elim (split s r) [
  | inl l ↦
      let S = sq (units s + units r) in
      let x : 4 * b * c < S * d * c = mul-lt-mul_of_pos_right (nearer_above b d s D g r l) C in
      let y : S * c * d < 4 * a * d =
      mul-lt-mul_of_pos_right (lt_of_le_of_lt (le_of_eq (ap (λ (n : ℕ). sq n * c) (add_comm (units s) (units r)))) (nearer_below a c r C f s l)) D in
      absurd (clash (S * d * c) (S * c * d) (4 * a * d) (4 * b * c) (mul_right_comm S d c) x y
      (le_trans (le_of_eq (mul_assoc 4 a d)) (le_trans (mul-le-mul_left 4 h) (le_of_eq (sym (mul_assoc 4 b c))))))
  | inr l ↦ l
]
  where
    clash : (p q u v : ℕ) → p ≡ q → v < p → q < u → u ≤ v → ⊥
    clash p q u v e x y z = omega arith

pub one : (a c r s : ℕ) → 0 < c → Rooted a c r → Rooted a c s → r ≡ s
one a c r s p f g = let same : a * c ≤ a * c = le_of_eq refl in
    le_antisymm (ordered a c a c r s p p same f g) (ordered a c a c s r p p same g f)

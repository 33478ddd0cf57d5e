-- For a finite x above zero no value y of binary32 is nearer to √x than the r that `is_root x` accepts: √x is on r's side of (r + y) / 2, so 4 * x is
-- compared with (r + y) ^ 2. The three theorems at the end take y above r, y below r and not negative, and y below zero. Assumes nothing.
use mathlib.Core.Path.{◌≡◌, sym, ap, ◌∙◌, subst, subst⁻¹}
use mathlib.Core.Logic.{inl, inr}
use Prim.Native.Nat.{ℕ, suc, ◌+◌, ◌-◌, ◌*◌, ◌^◌, ◌≤◌, ◌<◌}
use native.Mathlib.Nat.{le_trans, le_of_eq, le_of_lt, lt_of_lt_of_le, lt_of_le_of_lt, lt_of_mul-lt-mul_right, lt_of_not-le, not-le_of_lt}
use native.Mathlib.Nat.{eq-or-lt_of_le, mul_assoc, mul_comm, mul_left_comm, mul_right_comm, mul-one, add-mul, mul-le-mul, mul-le-mul_left}
use native.Mathlib.Nat.{mul-le-mul_right, mul-lt-mul_of_pos_right, mul-pos, sub-le, add-zero}
use native.Mathlib.Omega.{arith}
use mathlib.Core.Bool.{true, false, not}
use lib.IntN.{ℤ}
use lib.Dec.{T, ltb→lt, lit<}
use lib.Pow.{pow_pos}
use lib.Ieee.{Float, nan, inf, fin, binary32, up, down, to_bits, fits, lt}
use lib.Ieee.Fits.{down_pos}
use lib.Ieee.Bits.{of_bits-to_bits}
use lib.Ieee.Exact.{HasValue}
use lib.Ieee.Order.{transfer}
use Rattle.root.specs.Root.{sq, sig, place, units, root_bits, is_root}
use Rattle.root.proofs.Facts.{Rooted, facts}
use Rattle.root.proofs.Normal.{units_low, units_high, split}
use Rattle.root.proofs.Values.{value, plain, unit_size}
use Rattle.root.proofs.Meaning.{above, least, nearer_above, nearer_below}

-- ---- the order of two values is that of their patterns
pub units_mono : (y r : ℕ) → y ≤ r → units y ≤ units r
units_mono y r h = elim (eq-or-lt_of_le h) [
  | inl e ↦ le_of_eq (ap units e)
  | inr l ↦
      elim (split y 8388608) [
        | inl g ↦ subst⁻¹ (λ (u : ℕ). u ≤ units r) (units_low y g) (low g)
        | inr g ↦ subst⁻¹ (λ (u : ℕ). u ≤ units r) (units_high y g) (le_trans (mul-le-mul_right (2 ^ place y) (one_less (sig y))) (above y r g l))
      ]
]
  where
    one_less : (q : ℕ) → q ≤ q + 1
    one_less q = omega arith

    low : y < 8388608 → y ≤ units r
    low g = elim (split r 8388608) [
      | inl k ↦ subst⁻¹ (λ (u : ℕ). y ≤ u) (units_low r k) h
      | inr k ↦
          subst⁻¹ (λ (u : ℕ). y ≤ u) (units_high r k)
          (le_trans (le_of_lt g) (le_trans (least r) (le_trans (le_of_eq (sym (mul-one (sig r)))) (mul-le-mul_left (sig r) (pow_pos (place r))))))
    ]

patterns : (p n : ℕ) (c d : ℤ) → T (fits binary32 (fin false p c)) → T (fits binary32 (fin false n d)) → T (lt (fin false p c) (fin false n d))
    → to_bits binary32 (fin false p c) < to_bits binary32 (fin false n d)
unfolding lt
patterns p n c d f g t =
    let r = to_bits binary32 (fin false p c) in
    let y = to_bits binary32 (fin false n d) in
    let h : p * up c * down d < n * up d * down c = ltb→lt (p * up c * down d) (n * up d * down c) t in
    lt_of_not-le
    (λ (k : y ≤ r).
    not-le_of_lt h
    (transfer (n * up d) (p * up c) (down d) (down c) (units y) (units r) (2 ^ 149) (2 ^ 149) (pow_pos 149) (pow_pos 149) (unit_size n d g) (unit_size p c f)
    (mul-le-mul_right (2 ^ 149) (units_mono y r k))))

-- ---- from units to fractions
sums : (P N R Y c d k : ℕ) → P * k ≡ R * c → N * k ≡ Y * d → (R + Y) * (c * d) ≡ (P * d + N * c) * k
sums P N R Y c d k e f =
    let r : R * (c * d) ≡ P * d * k = sym (mul_assoc R c d) ∙ ap (λ (x : ℕ). x * d) (sym e) ∙ mul_right_comm P k d in
    let y : Y * (c * d) ≡ N * c * k = ap (λ (x : ℕ). Y * x) (mul_comm c d) ∙ sym (mul_assoc Y d c) ∙ ap (λ (x : ℕ). x * c) (sym f) ∙ mul_right_comm N k c in
    add-mul R Y (c * d) ∙ ap (λ (x : ℕ). x + Y * (c * d)) r ∙ ap (λ (x : ℕ). P * d * k + x) y ∙ sym (add-mul (P * d) (N * c) k)

four : (M D k : ℕ) → 4 * M * sq D * (k * k) ≡ 4 * (M * (k * k)) * (D * D)
four M D k = simp (mul_assoc, mul_comm, mul_left_comm)

square : (E X Z D k : ℕ) → X * D ≡ Z * k → sq Z * E * (k * k) ≡ sq X * E * (D * D)
square E X Z D k e =
    let a : sq Z * E * (k * k) ≡ Z * k * (Z * k) * E = simp (mul_assoc, mul_comm, mul_left_comm) in
    let b : X * D * (X * D) * E ≡ sq X * E * (D * D) = simp (mul_assoc, mul_comm, mul_left_comm) in
    a ∙ ap (λ (x : ℕ). x * x * E) (sym e) ∙ b

cancel : {a b a' b' : ℕ} (s t : ℕ) → 0 < t → a * s ≡ a' * t → b * s ≡ b' * t → a' < b' → a < b
cancel s t p e f h = lt_of_mul-lt-mul_right s (lt_of_le_of_lt (le_of_eq e) (lt_of_lt_of_le (mul-lt-mul_of_pos_right h p) (le_of_eq (sym f))))

-- ---- the theorem, with x = m * up e / down e, r = p * up c / down c and y = n * up d / down d
pub opened : (m : ℕ) (e : ℤ) (r : Float) → T (is_root (fin false (suc m) e) r) → T (root_bits (suc m * up e * 2 ^ 298) (down e) (to_bits binary32 r))
unfolding is_root
opened m e r t = t

module _ (m : ℕ) (e : ℤ) (p : ℕ) (c : ℤ) (n : ℕ) (d : ℤ) (f : T (fits binary32 (fin false p c))) (g : T (fits binary32 (fin false n d)))
    (t : T (is_root (fin false (suc m) e) (fin false p c))) where
  abbrev x : ℕ
  x = suc m * up e

  abbrev r : ℕ
  r = to_bits binary32 (fin false p c)

  abbrev y : ℕ
  y = to_bits binary32 (fin false n d)

  abbrev both : ℕ
  both = p * up c * down d + n * up d * down c

  met : Rooted (x * 2 ^ 298) (down e) r
  met = facts (x * 2 ^ 298) (down e) r (opened m e (fin false p c) t)

  left : 4 * x * sq (down c * down d) * (2 ^ 149 * 2 ^ 149) ≡ 4 * (x * 2 ^ 298) * (down c * down d * (down c * down d))
  left = four x (down c * down d) (2 ^ 149)

  right : sq both * down e * (2 ^ 149 * 2 ^ 149) ≡ sq (units r + units y) * down e * (down c * down d * (down c * down d))
  right =
      square (down e) (units r + units y) both (down c * down d) (2 ^ 149)
      (sums (p * up c) (n * up d) (units r) (units y) (down c) (down d) (2 ^ 149) (unit_size p c f) (unit_size n d g))

  some : 0 < down c * down d * (down c * down d)
  some = mul-pos (mul-pos (down_pos c) (down_pos d)) (mul-pos (down_pos c) (down_pos d))

  pub closer_than_above : T (lt (fin false p c) (fin false n d)) → 4 * (suc m * up e) * sq (down c * down d) < sq
      (p * up c * down d + n * up d * down c) * down e
  closer_than_above h = cancel (2 ^ 149 * 2 ^ 149) _ some left right (nearer_above (x * 2 ^ 298) (down e) r (down_pos e) met y (patterns p n c d f g h))

  pub closer_than_below : T (lt (fin false n d) (fin false p c)) → sq (p * up c * down d + n * up d * down c) * down e < 4 * (suc m * up e) * sq
      (down c * down d)
  closer_than_below h = cancel (2 ^ 149 * 2 ^ 149) _ some right left (nearer_below (x * 2 ^ 298) (down e) r (down_pos e) met y (patterns n p d c g f h))

-- y = -n * up d / down d, below zero: √x is above (r + y) / 2, since it is above r / 2 already
module _ (m : ℕ) (e : ℤ) (p : ℕ) (c : ℤ) (n : ℕ) (d : ℤ) (f : T (fits binary32 (fin false p c))) (t : T (is_root (fin false (suc m) e) (fin false p c))) where
  abbrev pattern : ℕ
  pattern = to_bits binary32 (fin false p c)

  abbrev dens : ℕ
  dens = down c * down d

  above_half : sq (units pattern + units 0) * down e < 4 * (suc m * up e * 2 ^ 298)
  above_half =
      let met = facts (suc m * up e * 2 ^ 298) (down e) pattern (opened m e (fin false p c) t) in
      nearer_below (suc m * up e * 2 ^ 298) (down e) pattern (down_pos e) met 0 (lt_of_lt_of_le (lit< tt) met.lo)

  less : (p * up c * down d - n * up d * down c) * 2 ^ 149 ≤ (units pattern + units 0) * dens
  less =
      le_trans (mul-le-mul_right (2 ^ 149) (sub-le (p * up c * down d) (n * up d * down c)))
      (le_of_eq (mul_right_comm (p * up c) (down d) (2 ^ 149) ∙ ap (λ (u : ℕ). u * down d) (unit_size p c f)
      ∙ mul_assoc (units pattern) (down c) (down d) ∙ ap (λ (u : ℕ). u * dens) (sym (add-zero (units pattern)))))

  pub closer_than_negative : sq (p * up c * down d - n * up d * down c) * down e < 4 * (suc m * up e) * sq (down c * down d)
  closer_than_negative =
      let k = 2 ^ 149 in
      let y = p * up c * down d - n * up d * down c in
      let u = units pattern + units 0 in
      let moved : sq y * down e * (k * k) ≡ y * k * (y * k) * down e = simp (mul_assoc, mul_comm, mul_left_comm) in
      let back : u * dens * (u * dens) * down e ≡ sq u * down e * (dens * dens) = simp (mul_assoc, mul_comm, mul_left_comm) in
      lt_of_mul-lt-mul_right (k * k)
      (lt_of_le_of_lt (le_trans (le_of_eq moved) (le_trans (mul-le-mul_right (down e) (mul-le-mul less less)) (le_of_eq back)))
      (lt_of_lt_of_le (mul-lt-mul_of_pos_right above_half (mul-pos (mul-pos (down_pos c) (down_pos d)) (mul-pos (down_pos c) (down_pos d))))
      (le_of_eq (sym (four (suc m * up e) dens k)))))

-- and the root of such an x is finite and not negative, so that it has that form
pub root_plain : (m : ℕ) (e : ℤ) (r : Float) → T (fits binary32 r) → T (is_root (fin false (suc m) e) r) → plain r ≡ true
root_plain m e r f t =
    let b = to_bits binary32 r in
    let g = facts (suc m * up e * 2 ^ 298) (down e) b (opened m e r t) in
    go r (units b) (subst (λ (w : Float). HasValue w false (units b) (2 ^ 149)) (of_bits-to_bits binary32 r f) (value b g.hi))
  where
    go : (r : Float) (u : ℕ) → HasValue r false u (2 ^ 149) → plain r ≡ true
    go nan u h = absurd h
    go (inf s) u h = absurd h
    go (fin s n d) u h = ap not h.0

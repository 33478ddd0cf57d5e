-- The calculus of `Within p r x`. It rests on one fact, `round_within`: rounding does not pass p * 2 ^ r units where p has no more digits than
-- binary32 keeps, because such a bound is a binary32 number. So p may be any natural number below 2 ^ 24, also one that is not known. Assumes nothing.
use mathlib.Core.Path.{◌≡◌, sym, ap, ◌∙◌, subst}
use Prim.Native.Nat.{ℕ, ◌+◌, ◌-◌, ◌*◌, ◌/◌, ◌^◌, ◌≤◌, ◌<◌}
use native.Mathlib.Nat.{le_trans, le_of_eq, lt_of_le_of_lt, lt_of_lt_of_le, add_comm, add-mul, mul_comm, mul_assoc}
use native.Mathlib.Nat.{mul_right_comm, mul-mul-mul_comm, mul-le-mul, mul-le-mul_right, mul-lt-mul_of_pos_right, le_of_mul-le-mul_right, mul-pos}
use native.Mathlib.Nat.{div-lt_iff_lt-mul}
use native.Mathlib.Omega.{arith}
use mathlib.Core.Bool.{Bool, true, false, ◌&&◌, beq}
use lib.Dec.{T, leb, ltb, leb→le, le→leb, lit<}
use lib.Pow.{pow-add, pow_pos, pow_mono}
use lib.Ieee.{Float, nan, inf, fin, binary32, up, down, unlike, size, round, neg, sum, add, sub, mul, le}
use lib.Ieee.Digits.{size-le, back}
use lib.Ieee.Fits.{down_pos}
use lib.Ieee.Exact.{HasValue}
use lib.Ieee.Order.{drop}
use lib.Ieee.Scale.{grid, finite}
use Rattle.bounds.specs.Bound as Bound
use Rattle.bounds.specs.Bound.{Below}
use Rattle.bounds.specs.Within.{at_most, Within}
use Rattle.bounds.proofs.Laws.{closest_le, round_value, picked, pos_le, neg_le}

-- ---- rounding does not pass p * 2 ^ K of the smallest values
spare : (z p k : ℕ) → z ≤ p + k → z - p ≤ k
spare z p k h = omega arith

grid_le : (a c p K : ℕ) → 0 < c → p < 2 ^ 24 → a * 2 ^ 149 ≤ p * 2 ^ K * c → grid binary32 a c ≤ p * 2 ^ K
grid_le a c p K C P h =
    let n = a * 2 ^ 149 in
    let d = drop 24 n c in
    let few : n / c < 2 ^ (24 + K) =
    (div-lt_iff_lt-mul C).1 (lt_of_le_of_lt h (mul-lt-mul_of_pos_right (subst (λ (x : ℕ). p * 2 ^ K < x) (sym (pow-add 2 24 K))
    (mul-lt-mul_of_pos_right P (pow_pos K))) C)) in
    let d_k : d ≤ K = spare (size (n / c)) 24 K (size-le (n / c) (24 + K) few) in
    let e : p * 2 ^ (K - d) * 2 ^ d ≡ p * 2 ^ K =
    mul_assoc p (2 ^ (K - d)) (2 ^ d) ∙ ap (λ (x : ℕ). p * x) (sym (pow-add 2 (K - d) d) ∙ ap (λ (x : ℕ). 2 ^ x) (back K d d_k)) in
    let q : n ≤ p * 2 ^ (K - d) * (c * 2 ^ d) =
    le_trans h (le_of_eq (ap (λ (x : ℕ). x * c) (sym e) ∙ mul_right_comm (p * 2 ^ (K - d)) (2 ^ d) c ∙ mul_assoc (p * 2 ^ (K - d)) c (2 ^ d))) in
    le_trans (mul-le-mul_right (2 ^ d) (closest_le n (c * 2 ^ d) (p * 2 ^ (K - d)) (mul-pos C (pow_pos d)) q)) (le_of_eq e)

-- 2 ^ 133 of the smallest values are one unit
raised : (p r c : ℕ) → p * 2 ^ r * c * 2 ^ 133 ≡ p * 2 ^ (r + 133) * c
raised p r c =
    mul_right_comm (p * 2 ^ r) c (2 ^ 133) ∙ ap (λ (x : ℕ). x * c) (mul_assoc p (2 ^ r) (2 ^ 133) ∙ ap (λ (x : ℕ). p * x) (sym (pow-add 2 r 133)))

within_of_value : (p r : ℕ) (x : Float) (s : Bool) (g : ℕ) → HasValue x s g (2 ^ 149) → g ≤ p * 2 ^ (r + 133) → T (at_most p r x)
within_of_value p r nan s g v h = absurd v
within_of_value p r (inf t) s g v h = absurd v
within_of_value p r (fin t m e) s g v h =
    le→leb (m * up e * 65536) (p * 2 ^ r * down e)
    (le_of_mul-le-mul_right {k = 2 ^ 133} (le_trans (le_of_eq (mul_assoc (m * up e) 65536 (2 ^ 133) ∙ v.1))
    (le_trans (mul-le-mul_right (down e) h) (le_of_eq (sym (raised p r (down e)))))) (pow_pos 133))

pub round_within : (s : Bool) (a c p r : ℕ) → 0 < c → p < 2 ^ 24 → T (leb r 100) → a * 65536 ≤ p * 2 ^ r * c → T (at_most p r (round binary32 s a c))
round_within s a c p r C P R h =
    let g : grid binary32 a c ≤ p * 2 ^ (r + 133) =
    grid_le a c p (r + 133) C P
    (le_trans (le_of_eq (sym (mul_assoc a 65536 (2 ^ 133)))) (le_trans (mul-le-mul_right (2 ^ 133) h) (le_of_eq (raised p r c)))) in
    let top : p * 2 ^ (r + 133) < 2 ^ 277 =
    lt_of_lt_of_le (mul-lt-mul_of_pos_right P (pow_pos (r + 133)))
    (le_trans (le_of_eq (sym (pow-add 2 24 (r + 133)))) (pow_mono (room r (leb→le r 100 R)))) in
    within_of_value p r (round binary32 s a c) s (grid binary32 a c) (round_value binary32 s a c (lt_of_le_of_lt g top)) g
  where
    room : (r : ℕ) → r ≤ 100 → 24 + (r + 133) ≤ 277
    room r h = omega arith

-- ---- the operations on `within`
sum_within : (s : Bool) (a : ℕ) (t : Bool) (b c p q r : ℕ) → 0 < c → p + q < 2 ^ 24 → T (leb r 100) → a * 65536 ≤ p * 2 ^ r * c
    → b * 65536 ≤ q * 2 ^ r * c → T (at_most (p + q) r (sum binary32 s a t b c))
unfolding sum
sum_within s a t b c p q r C P R ha hb =
    let split : (p + q) * 2 ^ r * c ≡ p * 2 ^ r * c + q * 2 ^ r * c =
    ap (λ (x : ℕ). x * c) (add-mul p q (2 ^ r)) ∙ add-mul (p * 2 ^ r) (q * 2 ^ r) c in
    let bounded : Float → Type 0 = λ x. T (at_most (p + q) r x) in
    let rounded : (v : Bool) (n : ℕ) → n * 65536 ≤ p * 2 ^ r * c + q * 2 ^ r * c → bounded (round binary32 v n c) =
    λ v n h. round_within v n c (p + q) r C P R (le_trans h (le_of_eq (sym split))) in
    picked bounded (beq s t) (rounded s (a + b) (omega arith))
    (picked bounded (ltb a b) (rounded t (b - a) (omega arith)) (rounded (s && ltb b a) (a - b) (omega arith)))

add_within : (p q r : ℕ) (x y : Float) → p + q < 2 ^ 24 → T (leb r 100) → T (at_most p r x) → T (at_most q r y) → T (at_most (p + q) r (add binary32 x y))
unfolding add
add_within p q r nan y P R hx hy = absurd hx
add_within p q r (inf s) y P R hx hy = absurd hx
add_within p q r (fin s m e) nan P R hx hy = absurd hy
add_within p q r (fin s m e) (inf t) P R hx hy = absurd hy
add_within p q r (fin s m e) (fin t n d) P R hx hy =
    sum_within s (m * up e * down d) t (n * up d * down e) (down e * down d) p q r (mul-pos (down_pos e) (down_pos d)) P R
    (wide p (m * up e) (down e) (down d) (leb→le (m * up e * 65536) (p * 2 ^ r * down e) hx))
    (le_trans (wide q (n * up d) (down d) (down e) (leb→le (n * up d * 65536) (q * 2 ^ r * down d) hy))
    (le_of_eq (ap (λ (z : ℕ). q * 2 ^ r * z) (mul_comm (down d) (down e)))))
  where
    wide : (p a d g : ℕ) → a * 65536 ≤ p * 2 ^ r * d → a * g * 65536 ≤ p * 2 ^ r * (d * g)
    wide p a d g h = le_trans (le_of_eq (mul_right_comm a g 65536)) (le_trans (mul-le-mul_right g h) (le_of_eq (mul_assoc (p * 2 ^ r) d g)))

-- two bounds multiplied
product : (a b p q r t u d g : ℕ) → r + t ≡ 16 + u → a * 65536 ≤ p * 2 ^ r * d → b * 65536 ≤ q * 2 ^ t * g
    → a * b * 65536 ≤ p * q * 2 ^ u * (d * g)
product a b p q r t u d g e ha hb =
    le_of_mul-le-mul_right {k = 65536}
    (le_trans (le_of_eq (mul_assoc (a * b) 65536 65536 ∙ mul-mul-mul_comm a b 65536 65536))
    (le_trans (mul-le-mul ha hb)
    (le_of_eq (mul-mul-mul_comm (p * 2 ^ r) d (q * 2 ^ t) g ∙ ap (λ (z : ℕ). z * (d * g)) powers ∙ mul_right_comm (p * q * 2 ^ u) 65536 (d * g)))))
    (lit< tt)
  where
    powers : p * 2 ^ r * (q * 2 ^ t) ≡ p * q * 2 ^ u * 65536
    powers =
        mul-mul-mul_comm p (2 ^ r) q (2 ^ t)
        ∙ ap (λ (z : ℕ). p * q * z) (sym (pow-add 2 r t) ∙ ap (λ (z : ℕ). 2 ^ z) (e ∙ add_comm 16 u) ∙ pow-add 2 u 16)
        ∙ sym (mul_assoc (p * q) (2 ^ u) 65536)

mul_within : (p q r t u : ℕ) (x y : Float) → r + t ≡ 16 + u → p * q < 2 ^ 24 → T (leb u 100) → T (at_most p r x) → T (at_most q t y)
    → T (at_most (p * q) u (mul binary32 x y))
unfolding mul
mul_within p q r t u nan y e P R hx hy = absurd hx
mul_within p q r t u (inf s) y e P R hx hy = absurd hx
mul_within p q r t u (fin s m i) nan e P R hx hy = absurd hy
mul_within p q r t u (fin s m i) (inf z) e P R hx hy = absurd hy
mul_within p q r t u (fin s m i) (fin z n d) e P R hx hy =
    round_within (unlike s z) (m * up i * (n * up d)) (down i * down d) (p * q) u (mul-pos (down_pos i) (down_pos d)) P R
    (product (m * up i) (n * up d) p q r t u (down i) (down d) e (leb→le (m * up i * 65536) (p * 2 ^ r * down i) hx)
    (leb→le (n * up d * 65536) (q * 2 ^ t * down d) hy))

neg_within : (p r : ℕ) (x : Float) → T (at_most p r x) → T (at_most p r (neg x))
unfolding neg
neg_within p r nan h = absurd h
neg_within p r (inf s) h = absurd h
neg_within p r (fin s m e) h = h

more_within : (p r q t : ℕ) (x : Float) → p * 2 ^ r ≤ q * 2 ^ t → T (at_most p r x) → T (at_most q t x)
more_within p r q t nan g h = absurd h
more_within p r q t (inf s) g h = absurd h
more_within p r q t (fin s m e) g h =
    le→leb (m * up e * 65536) (q * 2 ^ t * down e) (le_trans (leb→le (m * up e * 65536) (p * 2 ^ r * down e) h) (mul-le-mul_right (down e) g))

carried : (p r a d b g : ℕ) → 0 < g → a * g ≤ b * d → b * 65536 ≤ p * 2 ^ r * g → a * 65536 ≤ p * 2 ^ r * d
carried p r a d b g G h k =
    le_of_mul-le-mul_right
    (le_trans (le_of_eq (mul_right_comm a 65536 g)) (le_trans (mul-le-mul_right 65536 h) (le_trans (le_of_eq (mul_right_comm b d 65536))
    (le_trans (mul-le-mul_right d k) (le_of_eq (mul_right_comm (p * 2 ^ r) g d))))))
    G

between_within : (p r : ℕ) (lo hi x : Float) → T (at_most p r lo) → T (at_most p r hi) → T (le lo x) → T (le x hi) → T (at_most p r x)
unfolding le
between_within p r nan hi x hl hh l h = absurd hl
between_within p r (inf s) hi x hl hh l h = absurd hl
between_within p r (fin u i a) nan x hl hh l h = absurd hh
between_within p r (fin u i a) (inf t) x hl hh l h = absurd hh
between_within p r (fin u i a) (fin t n d) nan hl hh l h = absurd l
between_within p r (fin u i a) (fin t n d) (inf true) hl hh l h = absurd l
between_within p r (fin u i a) (fin t n d) (inf false) hl hh l h = absurd h
between_within p r (fin u i a) (fin t n d) (fin false m e) hl hh l h =
    le→leb (m * up e * 65536) (p * 2 ^ r * down e) (carried p r (m * up e) (down e) (n * up d) (down d) (down_pos d)
    (pos_le t (m * up e * down d) (n * up d * down e) h) (leb→le (n * up d * 65536) (p * 2 ^ r * down d) hh))
between_within p r (fin u i a) (fin t n d) (fin true m e) hl hh l h =
    le→leb (m * up e * 65536) (p * 2 ^ r * down e) (carried p r (m * up e) (down e) (i * up a) (down a) (down_pos a)
    (neg_le u (i * up a * down e) (m * up e * down a) l) (leb→le (i * up a * 65536) (p * 2 ^ r * down a) hl))

below_within : (p r k : ℕ) (x : Float) → p * 2 ^ r ≤ 2 ^ k * 65536 → T (at_most p r x) → T (Bound.within k x)
below_within p r k nan g h = absurd h
below_within p r k (inf s) g h = absurd h
below_within p r k (fin s m e) g h =
    le→leb (m * up e) (2 ^ k * down e)
    (le_of_mul-le-mul_right {k = 65536} (le_trans (leb→le (m * up e * 65536) (p * 2 ^ r * down e) h)
    (le_trans (mul-le-mul_right (down e) g) (le_of_eq (mul_right_comm (2 ^ k) 65536 (down e))))) (lit< tt))

finite_within : (p r : ℕ) (x : Float) → T (at_most p r x) → T (finite x)
finite_within p r nan h = absurd h
finite_within p r (inf s) h = absurd h
finite_within p r (fin s m e) h = tt

-- ---- the laws, at binary32
pub constant : (p r : ℕ) {x : Float} → T (at_most p r x) → Within p r x
constant p r t = record { holds = t }

-- a bound that is no smaller
pub more : {p r : ℕ} (q t : ℕ) {x : Float} → p * 2 ^ r ≤ q * 2 ^ t → Within p r x → Within q t x
more {p} {r} q t {x} g h = record { holds = more_within p r q t x g h.holds }

pub added : {p q r : ℕ} {x y : Float} → p + q < 2 ^ 24 → T (leb r 100) → Within p r x → Within q r y → Within (p + q) r (add binary32 x y)
added {p} {q} {r} {x} {y} P R hx hy = record { holds = add_within p q r x y P R hx.holds hy.holds }

pub negated : {p r : ℕ} {x : Float} → Within p r x → Within p r (neg x)
negated {p} {r} {x} h = record { holds = neg_within p r x h.holds }

pub subtracted : {p q r : ℕ} {x y : Float} → p + q < 2 ^ 24 → T (leb r 100) → Within p r x → Within q r y → Within (p + q) r (sub binary32 x y)
unfolding sub
subtracted P R hx hy = added P R hx (negated hy)

pub multiplied : {p q r t : ℕ} {x y : Float} (u : ℕ) → r + t ≡ 16 + u → p * q < 2 ^ 24 → T (leb u 100) → Within p r x → Within q t y
    → Within (p * q) u (mul binary32 x y)
multiplied {p} {q} {r} {t} {x} {y} u e P R hx hy = record { holds = mul_within p q r t u x y e P R hx.holds hy.holds }

pub between : {p r : ℕ} {lo hi x : Float} → Within p r lo → Within p r hi → T (le lo x) → T (le x hi) → Within p r x
between {p} {r} {lo} {hi} {x} hl hh l h = record { holds = between_within p r lo hi x hl.holds hh.holds l h }

-- in the coarser calculus
pub below : {p r : ℕ} (k : ℕ) {x : Float} → p * 2 ^ r ≤ 2 ^ k * 65536 → Within p r x → Below k x
below {p} {r} k {x} g h = record { holds = below_within p r k x g h.holds }

pub is_finite : {p r : ℕ} {x : Float} → Within p r x → T (finite x)
is_finite {p} {r} {x} h = finite_within p r x h.holds

-- ---- a sum of three products, in the two orders that occur
module _ {a b c i j k r t : ℕ} {f g h x y z : Float} (u : ℕ) (e : r + t ≡ 16 + u) (P : a * i + b * j + c * k < 2 ^ 24) (R : T (leb u 100))
    (pf : Within a r f) (pg : Within b r g) (ph : Within c r h) (px : Within i t x) (py : Within j t y) (pz : Within k t z) where
  pub dot3 : Within (a * i + b * j + c * k) u (add binary32 (add binary32 (mul binary32 f x) (mul binary32 g y)) (mul binary32 h z))
  dot3 =
      added P R (added (omega arith) R (multiplied u e (omega arith) R pf px) (multiplied u e (omega arith) R pg py)) (multiplied u e (omega arith) R ph pz)

  -- summed from z to x
  pub dot3_right : Within (c * k + (b * j + a * i)) u (add binary32 (mul binary32 h z) (add binary32 (mul binary32 g y) (mul binary32 f x)))
  dot3_right =
      added (omega arith) R (multiplied u e (omega arith) R ph pz)
      (added (omega arith) R (multiplied u e (omega arith) R pg py) (multiplied u e (omega arith) R pf px))

-- The calculus that keeps floats finite: from bounds of the operands to a bound of the result, for each operation in use.
-- It rests on one fact, `round_within`: rounding does not pass a power of two. Assumes nothing.
use mathlib.Core.Path.{◌≡◌, sym, ap, ◌∙◌, subst}
use Prim.Native.Nat.{ℕ, suc, ◌+◌, ◌-◌, ◌*◌, ◌/◌, ◌%◌, ◌^◌, ◌≤◌, ◌<◌, max, compare}
use native.Mathlib.Nat.{le_trans, le_of_eq, le_of_lt, lt_of_le_of_lt, lt-suc_self, le-max_left, le-max_right, sub-le, zero-lt-suc, add-le-add}
use native.Mathlib.Nat.{two-pow-succ, add-mul, mul-one, mul_comm, mul_assoc, mul_right_comm, mul-mul-mul_comm, mul-le-mul, mul-le-mul_right}
use native.Mathlib.Nat.{le_of_mul-le-mul_right, mul-pos, div-one, mod-one, div-lt_iff_lt-mul, mul-lt-mul_of_pos_right}
use native.Mathlib.Omega.{arith}
use mathlib.Core.Logic.{◌⊎◌, inl, inr, ⊎_elim}
use mathlib.Core.Bool.{Bool, true, false, not, ◌&&◌, ◌||◌, beq, cond}
use lib.Dec.{T, leb, ltb, eqb, leb→le, le→leb, ltb→lt, eqb→eq, lit<}
use lib.IntN.{pos}
use lib.Pow.{pow-add, pow_pos, pow_mono, pow-lt}
use lib.Ieee.{Float, nan, inf, fin, Format, binary32, prec, emax, low, up, down, unlike, size, nearest, round, neg, sum, add, sub, mul, below, level}
use lib.Ieee.{le, lt, is_nan, of_bits}
use lib.Ieee.Digits.{size-le, back}
use lib.Ieee.Fits.{round_is, two, two-le_pos, down_pos, and_l}
use lib.Ieee.Exact.{HasValue, units_val}
use lib.Ieee.Nearest.{closest, closest_mono}
use lib.Ieee.Order.{drop, kept}
use lib.Ieee.Scale.{grid, overflow, finite}
use borrow.Author.Tests.{lt-ltb}
use Rattle.bounds.specs.Bound.{within, Below}

-- ---- rounding does not pass a power of two
closest_one : (q : ℕ) → closest q 1 ≡ q
closest_one q = ap (λ (x : ℕ). nearest x (compare (q % 1 * 2) 1)) (div-one q) ∙ ap (λ (x : ℕ). nearest q (compare (x * 2) 1)) (mod-one q)

pub closest_le : (n u q : ℕ) → 0 < u → n ≤ q * u → closest n u ≤ q
closest_le n u q U h = subst (λ (x : ℕ). closest n u ≤ x) (closest_one q) (closest_mono n u q 1 U (zero-lt-suc 0) (le_trans (le_of_eq (mul-one n)) h))

spare : (z p k : ℕ) → 0 < p → z ≤ suc k → z - p ≤ k
spare z p k P h = omega arith

whole_lt : (n c K : ℕ) → 0 < c → n ≤ 2 ^ K * c → n / c < 2 ^ suc K
whole_lt n c K C h = (div-lt_iff_lt-mul C).1 (lt_of_le_of_lt h (mul-lt-mul_of_pos_right (pow-lt (lt-suc_self K)) C))

grid_le : (f : Format) (a c K : ℕ) → 0 < c → a * 2 ^ low f ≤ 2 ^ K * c → grid f a c ≤ 2 ^ K
grid_le f a c K C h =
    let n = a * 2 ^ low f in
    let d = drop (prec f) n c in
    let d_k : d ≤ K = spare (size (n / c)) (prec f) K (two-le_pos (prec f) (two f)) (size-le (n / c) (suc K) (whole_lt n c K C h)) in
    let e : 2 ^ (K - d) * 2 ^ d ≡ 2 ^ K = sym (pow-add 2 (K - d) d) ∙ ap (λ (x : ℕ). 2 ^ x) (back K d d_k) in
    let q : n ≤ 2 ^ (K - d) * (c * 2 ^ d) =
    le_trans h (le_of_eq (ap (λ (x : ℕ). x * c) (sym e) ∙ mul_right_comm (2 ^ (K - d)) (2 ^ d) c ∙ mul_assoc (2 ^ (K - d)) c (2 ^ d))) in
    le_trans (mul-le-mul_right (2 ^ d) (closest_le n (c * 2 ^ d) (2 ^ (K - d)) (mul-pos C (pow_pos d)) q)) (le_of_eq e)

-- the kit's `round_val`, with either sign
pub round_value : (f : Format) (s : Bool) (a c : ℕ) → grid f a c < overflow f → HasValue (round f s a c) s (grid f a c) (2 ^ low f)
round_value f s a c h =
    subst (λ (z : Float). HasValue z s (grid f a c) (2 ^ low f)) (sym (round_is f s a c))
    (units_val f s (kept (prec f) (a * 2 ^ low f) c) (drop (prec f) (a * 2 ^ low f) c) h)

within_of_value : (k : ℕ) (x : Float) (s : Bool) (g l : ℕ) → 0 < l → HasValue x s g l → g ≤ 2 ^ k * l → T (within k x)
within_of_value k nan s g l L v h = absurd v
within_of_value k (inf t) s g l L v h = absurd v
within_of_value k (fin t m e) s g l L v h =
    le→leb (m * up e) (2 ^ k * down e)
    (le_of_mul-le-mul_right (le_trans (le_of_eq v.1) (le_trans (mul-le-mul_right (down e) h) (le_of_eq (mul_right_comm (2 ^ k) l (down e))))) L)

pub top_lt : (k l e : ℕ) → k ≤ e → k + l < l + suc e
top_lt k l e h = omega arith

pub round_within : (f : Format) (s : Bool) (a c k : ℕ) → k ≤ emax f → 0 < c → a ≤ 2 ^ k * c → T (within k (round f s a c))
round_within f s a c k E C h =
    let l = low f in
    let g : grid f a c ≤ 2 ^ (k + l) =
    grid_le f a c (k + l) C (le_trans (mul-le-mul_right (2 ^ l) h)
    (le_of_eq (mul_right_comm (2 ^ k) c (2 ^ l) ∙ ap (λ (x : ℕ). x * c) (sym (pow-add 2 k l))))) in
    within_of_value k (round f s a c) s (grid f a c) (2 ^ l) (pow_pos l)
    (round_value f s a c (lt_of_le_of_lt g (pow-lt (top_lt k l (emax f) E))))
    (le_trans g (le_of_eq (pow-add 2 k l)))

-- ---- what holds of two values holds of the one that a test picks
pub picked : {A : Type 0} (P : A → Type 0) (b : Bool) {x y : A} → P x → P y → P (cond b x y)
picked P true p q = p
picked P false p q = q

-- where the first may lean on the test
pub picked_if : {A : Type 0} (P : A → Type 0) (b : Bool) {x y : A} → (T b → P x) → P y → P (cond b x y)
picked_if P true p q = p tt
picked_if P false p q = q

-- ---- the operations on `within`
sum_within : (f : Format) (s : Bool) (a : ℕ) (t : Bool) (b c k : ℕ) → suc k ≤ emax f → 0 < c → a ≤ 2 ^ k * c → b ≤ 2 ^ k * c
    → T (within (suc k) (sum f s a t b c))
unfolding sum
sum_within f s a t b c k E C p q =
    let both : a + b ≤ 2 ^ suc k * c =
    le_trans (add-le-add p q) (le_of_eq (sym (add-mul (2 ^ k) (2 ^ k) c) ∙ ap (λ (x : ℕ). x * c) (sym (two-pow-succ k)))) in
    let one : 2 ^ k * c ≤ 2 ^ suc k * c = mul-le-mul_right c (pow_mono (le_suc_self k)) in
    let bounded : Float → Type 0 = λ x. T (within (suc k) x) in
    picked bounded (beq s t)
    (round_within f s (a + b) c (suc k) E C both)
    (picked bounded (ltb a b)
    (round_within f t (b - a) c (suc k) E C (le_trans (sub-le b a) (le_trans q one)))
    (round_within f (s && ltb b a) (a - b) c (suc k) E C (le_trans (sub-le a b) (le_trans p one))))
  where
    le_suc_self : (k : ℕ) → k ≤ suc k
    le_suc_self k = omega arith

scaled : (j k a d g : ℕ) → j ≤ k → a ≤ 2 ^ j * d → a * g ≤ 2 ^ k * (d * g)
scaled j k a d g h p = le_trans (mul-le-mul_right g (le_trans p (mul-le-mul_right d (pow_mono h)))) (le_of_eq (mul_assoc (2 ^ k) d g))

add_within : (f : Format) (j k : ℕ) (x y : Float) → suc (max j k) ≤ emax f → T (within j x) → T (within k y) → T (within (suc (max j k)) (add f x y))
unfolding add
add_within f j k nan y E p q = absurd p
add_within f j k (inf s) y E p q = absurd p
add_within f j k (fin s m e) nan E p q = absurd q
add_within f j k (fin s m e) (inf t) E p q = absurd q
add_within f j k (fin s m e) (fin t n d) E p q =
    sum_within f s (m * up e * down d) t (n * up d * down e) (down e * down d) (max j k) E (mul-pos (down_pos e) (down_pos d))
    (scaled j (max j k) (m * up e) (down e) (down d) (le-max_left j k) (leb→le (m * up e) (2 ^ j * down e) p))
    (le_trans (scaled k (max j k) (n * up d) (down d) (down e) (le-max_right j k) (leb→le (n * up d) (2 ^ k * down d) q))
    (le_of_eq (ap (λ (z : ℕ). 2 ^ max j k * z) (mul_comm (down d) (down e)))))

mul_within : (f : Format) (j k : ℕ) (x y : Float) → j + k ≤ emax f → T (within j x) → T (within k y) → T (within (j + k) (mul f x y))
unfolding mul
mul_within f j k nan y E p q = absurd p
mul_within f j k (inf s) y E p q = absurd p
mul_within f j k (fin s m e) nan E p q = absurd q
mul_within f j k (fin s m e) (inf t) E p q = absurd q
mul_within f j k (fin s m e) (fin t n d) E p q =
    round_within f (unlike s t) (m * up e * (n * up d)) (down e * down d) (j + k) E (mul-pos (down_pos e) (down_pos d))
    (le_trans (mul-le-mul (leb→le (m * up e) (2 ^ j * down e) p) (leb→le (n * up d) (2 ^ k * down d) q))
    (le_of_eq (mul-mul-mul_comm (2 ^ j) (down e) (2 ^ k) (down d) ∙ ap (λ (z : ℕ). z * (down e * down d)) (sym (pow-add 2 j k)))))

neg_within : (k : ℕ) (x : Float) → T (within k x) → T (within k (neg x))
unfolding neg
neg_within k nan p = absurd p
neg_within k (inf s) p = absurd p
neg_within k (fin s m e) p = p

more_within : (j k : ℕ) (x : Float) → j ≤ k → T (within j x) → T (within k x)
more_within j k nan h p = absurd p
more_within j k (inf s) h p = absurd p
more_within j k (fin s m e) h p =
    le→leb (m * up e) (2 ^ k * down e) (le_trans (leb→le (m * up e) (2 ^ j * down e) p) (mul-le-mul_right (down e) (pow_mono h)))

-- ---- the laws, at binary32. Where k is a numeral, `tt` shows that it is at most 127
pub constant : (k : ℕ) {x : Float} → T (within k x) → Below k x
constant k t = record { holds = t }

pub more : {j : ℕ} (k : ℕ) {x : Float} → T (leb j k) → Below j x → Below k x
more {j} k {x} t p = record { holds = more_within j k x (leb→le j k t) p.holds }

pub added : {j k : ℕ} {x y : Float} → T (leb (suc (max j k)) 127) → Below j x → Below k y → Below (suc (max j k)) (add binary32 x y)
added {j} {k} {x} {y} t p q = record { holds = add_within binary32 j k x y (leb→le (suc (max j k)) 127 t) p.holds q.holds }

-- at one bound for both, where k need not be a numeral
pub summed : {k : ℕ} {x y : Float} → T (leb (suc k) 127) → Below k x → Below k y → Below (suc k) (add binary32 x y)
summed {k} {x} {y} t p q = subst (λ (z : ℕ). Below (suc z) (add binary32 x y)) (max_self k)
    (added (subst (λ (z : ℕ). T (leb (suc z) 127)) (sym (max_self k)) t) p q)
  where
    max_self : (k : ℕ) → max k k ≡ k
    max_self k = omega arith

pub multiplied : {j k : ℕ} {x y : Float} → T (leb (j + k) 127) → Below j x → Below k y → Below (j + k) (mul binary32 x y)
multiplied {j} {k} {x} {y} t p q = record { holds = mul_within binary32 j k x y (leb→le (j + k) 127 t) p.holds q.holds }

pub negated : {k : ℕ} {x : Float} → Below k x → Below k (neg x)
negated {k} {x} p = record { holds = neg_within k x p.holds }

pub subtracted : {j k : ℕ} {x y : Float} → T (leb (suc (max j k)) 127) → Below j x → Below k y → Below (suc (max j k)) (sub binary32 x y)
unfolding sub
subtracted t p q = added t p (negated q)

-- at one bound for both
pub deducted : {k : ℕ} {x y : Float} → T (leb (suc k) 127) → Below k x → Below k y → Below (suc k) (sub binary32 x y)
unfolding sub
deducted t p q = summed t p (negated q)

or_split : (a b : Bool) → T (a || b) → T a ⊎ T b
or_split true b t = inl tt
or_split false b t = inr t

-- what a magnitude test on two values says of their sizes a and b, where the one on the left is not negative, and where the one on the right is negative
pub pos_le : (t : Bool) (a b : ℕ) → T (below false a t b || level false a t b) → a ≤ b
pos_le false a b h = ⊎_elim (λ u. le_of_lt (ltb→lt a b u)) (λ u. le_of_eq (eqb→eq a b (and_l (eqb a b) true u))) (or_split (ltb a b) (eqb a b && true) h)
pos_le true a b h = le_of_eq (eqb→eq a b (and_l (eqb a b) (eqb a 0) h))

pub neg_le : (t : Bool) (b a : ℕ) → T (below t b true a || level t b true a) → a ≤ b
neg_le true b a h = ⊎_elim (λ u. le_of_lt (ltb→lt a b u)) (λ u. le_of_eq (sym (eqb→eq b a (and_l (eqb b a) true u)))) (or_split (ltb a b) (eqb b a && true) h)
neg_le false b a h = le_of_eq (sym (eqb→eq b a (and_l (eqb b a) (eqb b 0) h)))

carried : (k a d b g : ℕ) → 0 < g → a * g ≤ b * d → b ≤ 2 ^ k * g → a ≤ 2 ^ k * d
carried k a d b g G h p = le_of_mul-le-mul_right (le_trans h (le_trans (mul-le-mul_right d p) (le_of_eq (mul_right_comm (2 ^ k) g d)))) G

between_within : (k : ℕ) (lo hi x : Float) → T (within k lo) → T (within k hi) → T (le lo x) → T (le x hi) → T (within k x)
unfolding le
between_within k nan hi x p q l h = absurd p
between_within k (inf s) hi x p q l h = absurd p
between_within k (fin u i a) nan x p q l h = absurd q
between_within k (fin u i a) (inf t) x p q l h = absurd q
between_within k (fin u i a) (fin t n d) nan p q l h = absurd l
between_within k (fin u i a) (fin t n d) (inf true) p q l h = absurd l
between_within k (fin u i a) (fin t n d) (inf false) p q l h = absurd h
between_within k (fin u i a) (fin t n d) (fin false m e) p q l h =
    le→leb (m * up e) (2 ^ k * down e) (carried k (m * up e) (down e) (n * up d) (down d) (down_pos d)
    (pos_le t (m * up e * down d) (n * up d * down e) h) (leb→le (n * up d) (2 ^ k * down d) q))
between_within k (fin u i a) (fin t n d) (fin true m e) p q l h =
    le→leb (m * up e) (2 ^ k * down e) (carried k (m * up e) (down e) (i * up a) (down a) (down_pos a)
    (neg_le u (i * up a * down e) (m * up e * down a) l) (leb→le (i * up a) (2 ^ k * down a) p))

pub between : {k : ℕ} {lo hi x : Float} → Below k lo → Below k hi → T (le lo x) → T (le x hi) → Below k x
between {k} {lo} {hi} {x} p q l h = record { holds = between_within k lo hi x p.holds q.holds l h }

-- ---- what a bound is for
finite_within : (k : ℕ) (x : Float) → T (within k x) → T (finite x)
finite_within k nan p = absurd p
finite_within k (inf s) p = absurd p
finite_within k (fin s m e) p = tt

pub is_finite : {k : ℕ} {x : Float} → Below k x → T (finite x)
is_finite {k} {x} p = finite_within k x p.holds

pub no_nan : (x : Float) → T (finite x) → T (not (is_nan x))
unfolding is_nan
no_nan nan p = absurd p
no_nan (inf s) p = absurd p
no_nan (fin s m e) p = tt

-- what is at most 2 ^ 127 is below the largest float, whose bits are 0x7f7f_ffff
under_largest : (x : Float) → T (within 127 x) → lt x (fin false 16777215 (pos 104)) ≡ true
unfolding lt
under_largest nan p = absurd p
under_largest (inf s) p = absurd p
under_largest (fin true m e) p =
    lt-ltb 0 (m * up e * 1 + 16777215 * 2 ^ 104 * down e) (any (m * up e * 1) (16777215 * 2 ^ 104 * down e) (mul-pos (lit< tt) (down_pos e)))
  where
    any : (a b : ℕ) → 0 < b → 0 < a + b
    any a b h = omega arith
under_largest (fin false m e) p =
    lt-ltb (m * up e * 1) (16777215 * 2 ^ 104 * down e) (room (m * up e) (down e) (down_pos e) (leb→le (m * up e) (2 ^ 127 * down e) p))
  where
    room : (a d : ℕ) → 0 < d → a ≤ 2 ^ 127 * d → a * 1 < 16777215 * 2 ^ 104 * d
    room a d D h = lt_of_le_of_lt (le_trans (le_of_eq (mul-one a)) h) (mul-lt-mul_of_pos_right (lit< tt) D)

pub below_largest : {x : Float} → Below 127 x → lt x (of_bits binary32 0x7f7f_ffff) ≡ true
unfolding of_bits
below_largest {x} p = under_largest x p.holds

-- ---- a sum of three products, in the two orders that occur
pub less : (k b : ℕ) → T (leb (suc k) b) → T (leb k b)
less k b t = le→leb k b (le_of_lt (leb→le (suc k) b t))

one_more : (k : ℕ) → T (leb k (suc k))
one_more k = le→leb k (suc k) (le_of_lt (lt-suc_self k))

module _ {j k : ℕ} {a b c x y z : Float} (t : T (leb (suc (suc (j + k))) 127)) (pa : Below j a) (pb : Below j b) (pc : Below j c)
    (px : Below k x) (py : Below k y) (pz : Below k z) where
  pub dot3 : Below (suc (suc (j + k))) (add binary32 (add binary32 (mul binary32 a x) (mul binary32 b y)) (mul binary32 c z))
  dot3 =
      let t₁ = less (suc (j + k)) 127 t in
      let t₀ = less (j + k) 127 t₁ in
      summed t (summed t₁ (multiplied t₀ pa px) (multiplied t₀ pb py)) (more (suc (j + k)) (one_more (j + k)) (multiplied t₀ pc pz))

  pub dot3_right : Below (suc (suc (j + k))) (add binary32 (mul binary32 a x) (add binary32 (mul binary32 b y) (mul binary32 c z)))
  dot3_right =
      let t₁ = less (suc (j + k)) 127 t in
      let t₀ = less (j + k) 127 t₁ in
      summed t (more (suc (j + k)) (one_more (j + k)) (multiplied t₀ pa px)) (summed t₁ (multiplied t₀ pb py) (multiplied t₀ pc pz))

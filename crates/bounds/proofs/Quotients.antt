-- A quotient stays finite where its divisor is not too small. `AtLeast k x` says that x is 2 ^ -k or more, plus infinity included. Assumes nothing.
use mathlib.Core.Path.{◌≡◌, sym, ap, ◌∙◌, subst}
use Prim.Native.Nat.{ℕ, ◌+◌, ◌*◌, ◌^◌, ◌≤◌, ◌<◌}
use native.Mathlib.Nat.{le_trans, le_of_eq, lt_of_lt_of_le, lt_irrefl, mul_comm, mul_right_comm, mul-mul-mul_comm, mul-le-mul, mul-le-mul_right}
use native.Mathlib.Nat.{le_of_mul-le-mul_right, mul-pos}
use native.Mathlib.Omega.{arith}
use mathlib.Core.Bool.{Bool, true, false, not, ◌||◌}
use lib.IntN.{ℤ}
use lib.Dec.{T, leb, eqb, leb→le, le→leb, lt→ltb, eqb→eq}
use lib.Pow.{pow-add}
use lib.Ieee.{Float, nan, inf, fin, Format, binary32, emax, up, down, unlike, div, lt, eq, le}
use lib.Ieee.Fits.{up_pos, down_pos}
use lib.Ieee.Positive.{above, first_pos, above_of_le, le→cross}
use Rattle.bounds.specs.Bound.{within, Below}
use Rattle.bounds.proofs.Laws.{picked_if, round_within}

abbrev at_least : ℕ → Float → Bool
at_least k nan = false
at_least k (inf s) = not s
at_least k (fin true m e) = false
at_least k (fin false m e) = leb (down e) (m * up e * 2 ^ k)

pub record AtLeast (k : ℕ) (x : Float) : Type 0 where
  pub holds : T (at_least k x)

-- a number's, where `tt` shows it
pub least : (k : ℕ) {x : Float} → T (at_least k x) → AtLeast k x
least k t = record { holds = t }

some : (k m : ℕ) (e : ℤ) → T (at_least k (fin false m e)) → 0 < m
some k m e p = first_pos m (up e) (first_pos (m * up e) (2 ^ k) (lt_of_lt_of_le (down_pos e) (leb→le (down e) (m * up e * 2 ^ k) p)))

-- ---- what is no less than such a number is one
carried : (k a d b g : ℕ) → 0 < d → a * g ≤ b * d → d ≤ a * 2 ^ k → g ≤ b * 2 ^ k
carried k a d b g D h p =
    le_of_mul-le-mul_right
    (le_trans (le_of_eq (mul_comm g d)) (le_trans (mul-le-mul_right g p) (le_trans (le_of_eq (mul_right_comm a (2 ^ k) g))
    (le_trans (mul-le-mul_right (2 ^ k) h) (le_of_eq (mul_right_comm b d (2 ^ k)))))))
    D

no_less : (k : ℕ) (x y : Float) → T (at_least k x) → T (le x y) → T (at_least k y)
unfolding le
no_less k nan y p h = absurd p
no_less k (inf true) y p h = absurd p
no_less k (inf false) nan p h = absurd h
no_less k (inf false) (inf true) p h = absurd h
no_less k (inf false) (inf false) p h = tt
no_less k (inf false) (fin t n d) p h = absurd h
no_less k (fin true m e) y p h = absurd p
no_less k (fin false m e) y p h = go y (above_of_le (fin false m e) y (lt→ltb 0 m (some k m e p)) h) h
  where
    go : (y : Float) → T (above y) → T (le (fin false m e) y) → T (at_least k y)
    go nan a h = absurd a
    go (inf t) a h = a
    go (fin true n d) a h = absurd a
    go (fin false n d) a h =
        le→leb (down d) (n * up d * 2 ^ k)
        (carried k (m * up e) (down e) (n * up d) (down d) (down_pos e) (le→cross (fin false m e) (fin false n d) (lt→ltb 0 m (some k m e p)) a h)
        (leb→le (down e) (m * up e * 2 ^ k) p))

-- ---- a quotient
div_within : (f : Format) (j k : ℕ) (x y : Float) → j + k ≤ emax f → T (within j x) → T (at_least k y) → T (within (j + k) (div f x y))
unfolding div
div_within f j k nan y E p q = absurd p
div_within f j k (inf s) y E p q = absurd p
div_within f j k (fin s m e) nan E p q = absurd q
div_within f j k (fin s m e) (inf t) E p q = le→leb (0 * 1) (2 ^ (j + k) * 1) (omega arith)
div_within f j k (fin s m e) (fin true n d) E p q = absurd q
div_within f j k (fin s m e) (fin false n d) E p q =
    let N : 0 < n = some k n d q in
    picked_if (λ (z : Float). T (within (j + k) z)) (eqb n 0) (λ t. absurd (lt_irrefl 0 (subst (λ (z : ℕ). 0 < z) (eqb→eq n 0 t) N)))
    (round_within f (unlike s false) (m * up e * down d) (n * up d * down e) (j + k) E (mul-pos (mul-pos N (up_pos d)) (down_pos e))
    (le_trans (mul-le-mul (leb→le (m * up e) (2 ^ j * down e) p) (leb→le (down d) (n * up d * 2 ^ k) q)) (le_of_eq (turned j k (down e) (n * up d)))))
  where
    turned : (j k d n : ℕ) → 2 ^ j * d * (n * 2 ^ k) ≡ 2 ^ (j + k) * (n * d)
    turned j k d n =
        ap (λ (z : ℕ). 2 ^ j * d * z) (mul_comm n (2 ^ k)) ∙ mul-mul-mul_comm (2 ^ j) d (2 ^ k) n
        ∙ ap (λ (z : ℕ). z * (d * n)) (sym (pow-add 2 j k)) ∙ ap (λ (z : ℕ). 2 ^ (j + k) * z) (mul_comm d n)

-- ---- what is above another is no less
pub no_less_of_lt : (x y : Float) → T (lt x y) → T (le x y)
unfolding le
no_less_of_lt x y h = left (lt x y) (eq x y) h
  where
    left : (a b : Bool) → T a → T (a || b)
    left true b t = tt
    left false b t = absurd t

-- ---- the laws, at binary32
pub larger : {k : ℕ} {x y : Float} → AtLeast k x → T (le x y) → AtLeast k y
larger {k} {x} {y} p h = record { holds = no_less k x y p.holds h }

pub divided : {j k : ℕ} {x y : Float} → T (leb (j + k) 127) → Below j x → AtLeast k y → Below (j + k) (div binary32 x y)
divided {j} {k} {x} {y} t p q = record { holds = div_within binary32 j k x y (leb→le (j + k) 127 t) p.holds q.holds }

-- Unit normals and quaternions: where a rounded sum of squares is at most a number below 4, each number is finite and at most 2 in size. The way: a
-- number above 2, an infinity or a NaN has a `high` square; `high` goes up through sums of what is not negative; and what is high passes no such
-- test. `Low k x` says that x is no NaN, and is negative or below 2 ^ k. Assumes nothing.
use mathlib.Core.Path.{◌≡◌, refl, sym, ap, ◌∙◌, subst}
use Prim.Native.Nat.{ℕ, zero, suc, ◌+◌, ◌*◌, ◌^◌, ◌≤◌, ◌<◌}
use native.Mathlib.Nat.{le_trans, le_of_eq, le_of_lt, lt_of_le_of_lt, lt_irrefl, zero-lt-suc, le-add_right, add_comm, mul-one, one-mul, mul_comm}
use native.Mathlib.Nat.{mul_assoc, mul_right_comm, mul-mul-mul_comm, mul-le-mul, mul-le-mul_right, mul-lt-mul_of_pos_right, mul-pos}
use mathlib.Core.Bool.{Bool, true, false, not}
use lib.IntN.{ℤ}
use lib.Dec.{T, leb, ltb, leb→le, le→leb, ltb→lt, nleb→lt, not_T, T_not, lit<}
use lib.Pow.{pow-add, pow_pos, pow-lt}
use lib.Ieee.{Float, nan, inf, fin, Format, binary32, prec, emax, low, up, down, odd, units, round, sum, add, mul, le}
use lib.Ieee.Fits.{round_is, down_pos}
use lib.Ieee.Exact.{HasValue, round_exact}
use lib.Ieee.Order.{drop, kept, round_mono}
use lib.Ieee.Positive.{above, positive_of_value, above_of_le, values_of_le}
use Rattle.bounds.specs.Bound.{within, Below}
use Rattle.bounds.specs.Squares.{squares3, squares4}
use Rattle.bounds.proofs.Laws.{top_lt, picked, pos_le}

-- not negative, or a NaN
abbrev pub plus : Float → Bool
plus nan = true
plus (inf s) = not s
plus (fin s m e) = not s

-- 2 ^ k or more, or a NaN
abbrev high : ℕ → Float → Bool
high k nan = true
high k (inf s) = not s
high k (fin true m e) = false
high k (fin false m e) = leb (2 ^ k * down e) (m * up e)

pub record Plus (x : Float) : Type 0 where
  pub holds : T (plus x)

pub record Low (k : ℕ) (x : Float) : Type 0 where
  pub holds : T (not (high k x))

-- ---- `round`
odd_plus : (d q k l : ℕ) → T (plus (odd d false q k l))
unfolding odd
odd_plus d zero k l = tt
odd_plus d (suc q) k l = tt

units_plus : (f : Format) (q k : ℕ) → T (plus (units f false q k))
unfolding units
units_plus f q k = picked (λ (x : Float). T (plus x)) (ltb (q * 2 ^ k) (2 ^ (low f + suc (emax f)))) (odd_plus (suc (prec f)) q k (low f)) tt

pub round_plus : (f : Format) (a c : ℕ) → T (plus (round f false a c))
round_plus f a c = subst (λ (z : Float). T (plus z)) (sym (round_is f false a c))
    (units_plus f (kept (prec f) (a * 2 ^ low f) c) (drop (prec f) (a * 2 ^ low f) c))

one_lt : (f : Format) → 1 < 2 ^ prec f
one_lt f = pow-lt (two_lt f)
  where
    two_lt : (f : Format) → 0 < prec f
    two_lt Format.binary32 = lit< tt
    two_lt Format.binary64 = lit< tt

power_value : (f : Format) (k : ℕ) → k ≤ emax f → HasValue (round f false (2 ^ k) 1) false (2 ^ k) 1
power_value f k E =
    round_exact f false (2 ^ k) 1 1 (k + low f) (zero-lt-suc 0) (one_lt f)
    (subst (λ (x : ℕ). x < 2 ^ (low f + suc (emax f))) (sym (one-mul (2 ^ (k + low f)))) (pow-lt (top_lt k (low f) (emax f) E)))
    (sym (pow-add 2 k (low f)) ∙ sym (one-mul (2 ^ (k + low f))) ∙ sym (mul-one (1 * 2 ^ (k + low f))))

high_of_le : (k : ℕ) (lo z : Float) → HasValue lo false (2 ^ k) 1 → T (le lo z) → T (high k z)
high_of_le k lo z v h = go z (above_of_le lo z (positive_of_value lo (2 ^ k) 1 v (pow_pos k)) h) h
  where
    go : (z : Float) → T (above z) → T (le lo z) → T (high k z)
    go nan a h = tt
    go (inf s) a h = a
    go (fin true n d) a h = absurd a
    go (fin false n d) a h = le→leb (2 ^ k * down d) (n * up d)
        (le_trans (values_of_le lo (fin false n d) (2 ^ k) 1 (n * up d) (down d) (positive_of_value lo (2 ^ k) 1 v (pow_pos k)) a v (refl, refl) h)
        (le_of_eq (mul-one (n * up d))))

round_high : (f : Format) (a c k : ℕ) → k ≤ emax f → 0 < c → 2 ^ k * c ≤ a → T (high k (round f false a c))
round_high f a c k E C h =
    high_of_le k (round f false (2 ^ k) 1) (round f false a c) (power_value f k E)
    (round_mono f (2 ^ k) 1 a c (zero-lt-suc 0) C (le_trans h (le_of_eq (sym (mul-one a)))))

-- ---- a sum of two that are not negative
add_plus : (f : Format) (x y : Float) → T (plus x) → T (plus y) → T (plus (add f x y))
unfolding add sum
add_plus f nan y p q = tt
add_plus f (inf true) y p q = absurd p
add_plus f (inf false) nan p q = tt
add_plus f (inf false) (inf true) p q = absurd q
add_plus f (inf false) (inf false) p q = tt
add_plus f (inf false) (fin t n d) p q = tt
add_plus f (fin true m e) y p q = absurd p
add_plus f (fin false m e) nan p q = tt
add_plus f (fin false m e) (inf t) p q = q
add_plus f (fin false m e) (fin true n d) p q = absurd q
add_plus f (fin false m e) (fin false n d) p q = round_plus f (m * up e * down d + n * up d * down e) (down e * down d)

bigger : (k d a g b : ℕ) → 2 ^ k * d ≤ a → 2 ^ k * (d * g) ≤ a * g + b
bigger k d a g b h = le_trans (le_of_eq (sym (mul_assoc (2 ^ k) d g))) (le_trans (mul-le-mul_right g h) (le-add_right (a * g) b))

add_high_left : (f : Format) (k : ℕ) (x y : Float) → k ≤ emax f → T (high k x) → T (plus y) → T (high k (add f x y))
unfolding add sum
add_high_left f k nan y E p q = tt
add_high_left f k (inf true) y E p q = absurd p
add_high_left f k (inf false) nan E p q = tt
add_high_left f k (inf false) (inf true) E p q = absurd q
add_high_left f k (inf false) (inf false) E p q = tt
add_high_left f k (inf false) (fin t n d) E p q = tt
add_high_left f k (fin true m e) y E p q = absurd p
add_high_left f k (fin false m e) nan E p q = tt
add_high_left f k (fin false m e) (inf t) E p q = q
add_high_left f k (fin false m e) (fin true n d) E p q = absurd q
add_high_left f k (fin false m e) (fin false n d) E p q =
    round_high f (m * up e * down d + n * up d * down e) (down e * down d) k E (mul-pos (down_pos e) (down_pos d))
    (bigger k (down e) (m * up e) (down d) (n * up d * down e) (leb→le (2 ^ k * down e) (m * up e) p))

-- such sums may be turned round
add_turns : (f : Format) (x y : Float) → T (plus x) → T (plus y) → add f x y ≡ add f y x
unfolding add sum
add_turns f nan nan p q = refl
add_turns f nan (inf t) p q = refl
add_turns f nan (fin t n d) p q = refl
add_turns f (inf true) y p q = absurd p
add_turns f (inf false) nan p q = refl
add_turns f (inf false) (inf true) p q = absurd q
add_turns f (inf false) (inf false) p q = refl
add_turns f (inf false) (fin t n d) p q = refl
add_turns f (fin true m e) y p q = absurd p
add_turns f (fin false m e) nan p q = refl
add_turns f (fin false m e) (inf t) p q = refl
add_turns f (fin false m e) (fin true n d) p q = absurd q
add_turns f (fin false m e) (fin false n d) p q =
    rw (add_comm (m * up e * down d) (n * up d * down e), mul_comm (down e) (down d))

-- ---- a square
square_plus : (f : Format) (x : Float) → T (plus (mul f x x))
unfolding mul
square_plus f nan = tt
square_plus f (inf true) = tt
square_plus f (inf false) = tt
square_plus f (fin true m e) = round_plus f (m * up e * (m * up e)) (down e * down e)
square_plus f (fin false m e) = round_plus f (m * up e * (m * up e)) (down e * down e)

square_round : (f : Format) (j m : ℕ) (e : ℤ) → j + j ≤ emax f → T (not (leb (m * up e) (2 ^ j * down e)))
    → T (high (j + j) (round f false (m * up e * (m * up e)) (down e * down e)))
square_round f j m e E n =
    let l : 2 ^ j * down e ≤ m * up e = le_of_lt (nleb→lt (m * up e) (2 ^ j * down e) n) in
    round_high f (m * up e * (m * up e)) (down e * down e) (j + j) E (mul-pos (down_pos e) (down_pos e))
    (le_trans (le_of_eq (ap (λ (z : ℕ). z * (down e * down e)) (pow-add 2 j j) ∙ mul-mul-mul_comm (2 ^ j) (2 ^ j) (down e) (down e))) (mul-le-mul l l))

square_high : (f : Format) (j : ℕ) (x : Float) → j + j ≤ emax f → T (not (within j x)) → T (high (j + j) (mul f x x))
unfolding mul
square_high f j nan E n = tt
square_high f j (inf true) E n = tt
square_high f j (inf false) E n = tt
square_high f j (fin true m e) E n = square_round f j m e E n
square_high f j (fin false m e) E n = square_round f j m e E n

-- ---- what a test against a constant says
-- c is finite and below 2 ^ k
abbrev pub under : ℕ → Float → Bool
under k nan = false
under k (inf s) = false
under k (fin s m e) = ltb (m * up e) (2 ^ k * down e)

clash : (k a d b g : ℕ) → 0 < d → 2 ^ k * d ≤ a → a * g ≤ b * d → b < 2 ^ k * g → ⊥
clash k a d b g D p h l =
    lt_irrefl (2 ^ k * g * d)
    (lt_of_le_of_lt (le_trans (le_of_eq (mul_right_comm (2 ^ k) g d)) (le_trans (mul-le-mul_right g p) h)) (mul-lt-mul_of_pos_right l D))

high_not_le : (k : ℕ) (x c : Float) → T (under k c) → T (le x c) → T (high k x) → ⊥
unfolding le
high_not_le k x nan u h p = absurd u
high_not_le k x (inf t) u h p = absurd u
high_not_le k nan (fin t n d) u h p = absurd h
high_not_le k (inf true) (fin t n d) u h p = absurd p
high_not_le k (inf false) (fin t n d) u h p = absurd h
high_not_le k (fin true m e) (fin t n d) u h p = absurd p
high_not_le k (fin false m e) (fin t n d) u h p =
    clash k (m * up e) (down e) (n * up d) (down d) (down_pos e) (leb→le (2 ^ k * down e) (m * up e) p)
    (pos_le t (m * up e * down d) (n * up d * down e) h) (ltb→lt (n * up d) (2 ^ k * down d) u)

-- ---- the laws, at binary32
pub at_most_lem : {k : ℕ} {x : Float} (c : Float) → T (under k c) → T (le x c) → Low k x
at_most_lem {k} {x} c u h = record { holds = not_T (high k x) (high_not_le k x c u h) }

pub square : (x : Float) → Plus (mul binary32 x x)
square x = record { holds = square_plus binary32 x }

pub plus_add : {x y : Float} → Plus x → Plus y → Plus (add binary32 x y)
plus_add {x} {y} p q = record { holds = add_plus binary32 x y p.holds q.holds }

pub left : {k : ℕ} {x y : Float} → T (leb k 127) → Plus y → Low k (add binary32 x y) → Low k x
left {k} {x} {y} t q l = record {
  holds = not_T (high k x) (λ h. T_not (high k (add binary32 x y)) l.holds
      (add_high_left binary32 k x y (leb→le k 127 t) h q.holds));
}

pub right : {k : ℕ} {x y : Float} → T (leb k 127) → Plus x → Plus y → Low k (add binary32 x y) → Low k y
right {k} {x} {y} t p q l = left t p (subst (Low k) (add_turns binary32 x y p.holds q.holds) l)

pub root : (j : ℕ) {x : Float} → T (leb (j + j) 127) → Low (j + j) (mul binary32 x x) → Below j x
root j {x} t l = record {
  holds = go (within j x) (λ n. T_not (high (j + j) (mul binary32 x x)) l.holds
      (square_high binary32 j x (leb→le (j + j) 127 t) n));
}
  where
    go : (b : Bool) → (T (not b) → ⊥) → T b
    go true n = tt
    go false n = absurd (n tt)

-- ---- three and four squares, summed left to right, are at most c, which is below 4: so each number is at most 2 in size
low3 : (x y z : Float) → Low 2 (squares3 x y z) → Below 1 x × Below 1 y × Below 1 z
low3 x y z l =
    let xy : Low 2 (add binary32 (mul binary32 x x) (mul binary32 y y)) = left tt (square z) l in
    (root 1 tt (left tt (square y) xy), root 1 tt (right tt (square x) (square y) xy), root 1 tt (right tt (plus_add (square x) (square y)) (square z) l))

pub unit3 : (c x y z : Float) → T (under 2 c) → T (le (squares3 x y z) c) → Below 1 x × Below 1 y × Below 1 z
unit3 c x y z u h = low3 x y z (at_most_lem c u h)

pub unit4 : (c x y z w : Float) → T (under 2 c) → T (le (squares4 x y z w) c) → Below 1 x × Below 1 y × Below 1 z × Below 1 w
unit4 c x y z w u h =
    let l : Low 2 (squares4 x y z w) = at_most_lem c u h in
    let r = low3 x y z (left tt (square w) l) in
    (r.0, r.1, r.2, root 1 tt (right tt (plus_add (plus_add (square x) (square y)) (square z)) (square w) l))

-- Unit normals and quaternions, closer than in Squares.antt: where a rounded sum of squares is at most 1.01, the numbers have bounds in steps of 1/256
-- whose squares sum to little more. The way: `From p x` says that x is p / 2 ^ 16 or more; a number of k steps or more has a square from k * k on;
-- sums of such add up, for rounding does not fall below a binary32 number; and k steps with one more are a bound of the number. Assumes nothing.
use mathlib.Core.Path.{◌≡◌, refl, sym, ap, ◌∙◌, subst}
use Prim.Native.Nat.{ℕ, zero, suc, ◌+◌, ◌-◌, ◌*◌, ◌/◌, ◌^◌, ◌≤◌, ◌<◌}
use native.Mathlib.Nat.{le_trans, le_of_eq, le_of_lt, lt_of_le_of_lt, zero-lt-suc, add-mul, mul-add, mul_comm, mul_assoc, mul_right_comm}
use native.Mathlib.Nat.{mul-mul-mul_comm, mul-le-mul, mul-le-mul_right, le_of_mul-le-mul_right, mul-pos, div-lt_iff_lt-mul}
use native.Mathlib.Nat.{div-mul-le_self, lt-div-mul-add, suc-mul, mul-suc}
use native.Mathlib.Omega.{arith}
use mathlib.Core.Bool.{Bool, true, false, not}
use lib.Dec.{T, leb, leb→le, le→leb, nleb→lt, lit<}
use lib.Ieee.{Float, nan, inf, fin, binary32, up, down, round, sum, add, mul, le, of_bits}
use lib.Ieee.Fits.{down_pos}
use lib.Ieee.Exact.{HasValue, round_exact}
use lib.Ieee.Order.{round_mono}
use lib.Ieee.Positive.{above, positive_of_value, above_of_le, values_of_le}
use Rattle.bounds.specs.Bound.{Below}
use Rattle.bounds.specs.Within.{Within}
use Rattle.bounds.specs.Squares.{squares3, squares4}
use Rattle.bounds.proofs.Laws.{pos_le}
use Rattle.bounds.proofs.Squares.{plus, round_plus, unit3, unit4}

-- p / 2 ^ 16 or more, or a NaN
abbrev pub from : ℕ → Float → Bool
from p nan = true
from p (inf s) = not s
from p (fin true m e) = false
from p (fin false m e) = leb (p * down e) (m * up e * 65536)

pub record From (p : ℕ) (x : Float) : Type 0 where
  pub holds : T (from p x)

-- ---- `round`
whole_value : (p : ℕ) → p < 2 ^ 24 → HasValue (round binary32 false p 65536) false p 65536
whole_value p P =
    round_exact binary32 false p 65536 p 133 (lit< tt) P
    (lt_of_le_of_lt (mul-le-mul_right (2 ^ 133) (le_of_lt P)) (lit< tt))
    (sym (mul_assoc p (2 ^ 133) 65536))

from_plus : (z : Float) → T (plus z) → T (from 0 z)
from_plus nan h = tt
from_plus (inf s) h = h
from_plus (fin true m e) h = absurd h
from_plus (fin false m e) h = le→leb (0 * down e) (m * up e * 65536) (omega arith)

from_of_le : (p : ℕ) (lo z : Float) → 0 < p → HasValue lo false p 65536 → T (le lo z) → T (from p z)
from_of_le p lo z P v h = go z (above_of_le lo z (positive_of_value lo p 65536 v P) h) h
  where
    go : (z : Float) → T (above z) → T (le lo z) → T (from p z)
    go nan a h = tt
    go (inf s) a h = a
    go (fin true n d) a h = absurd a
    go (fin false n d) a h =
        le→leb (p * down d) (n * up d * 65536)
        (values_of_le lo (fin false n d) p 65536 (n * up d) (down d) (positive_of_value lo p 65536 v P) a v (refl, refl) h)

round_from : (a c p : ℕ) → 0 < c → p < 2 ^ 24 → p * c ≤ a * 65536 → T (from p (round binary32 false a c))
round_from a c zero C P h = from_plus (round binary32 false a c) (round_plus binary32 a c)
round_from a c (suc p) C P h =
    from_of_le (suc p) (round binary32 false (suc p) 65536) (round binary32 false a c) (zero-lt-suc p) (whole_value (suc p) P)
    (round_mono binary32 (suc p) 65536 a c (lit< tt) C h)

-- ---- sums
both : (p q a b d g : ℕ) → p * d ≤ a * 65536 → q * g ≤ b * 65536 → (p + q) * (d * g) ≤ (a * g + b * d) * 65536
both p q a b d g h k =
    let l : (p + q) * (d * g) ≡ p * d * g + q * g * d =
    add-mul p q (d * g) ∙ ap (λ (x : ℕ). x + q * (d * g)) (sym (mul_assoc p d g))
    ∙ ap (λ (x : ℕ). p * d * g + x) (sym (mul_assoc q d g) ∙ mul_right_comm q d g) in
    let r : (a * g + b * d) * 65536 ≡ a * 65536 * g + b * 65536 * d =
    add-mul (a * g) (b * d) 65536 ∙ ap (λ (x : ℕ). x + b * d * 65536) (mul_right_comm a g 65536)
    ∙ ap (λ (x : ℕ). a * 65536 * g + x) (mul_right_comm b d 65536) in
    let h' : p * d * g ≤ a * 65536 * g = mul-le-mul_right g h in
    let k' : q * g * d ≤ b * 65536 * d = mul-le-mul_right d k in
    omega arith

add_from : (p q : ℕ) (x y : Float) → p + q < 2 ^ 24 → T (from p x) → T (from q y) → T (from (p + q) (add binary32 x y))
unfolding add sum
add_from p q nan y P h k = tt
add_from p q (inf true) y P h k = absurd h
add_from p q (inf false) nan P h k = tt
add_from p q (inf false) (inf true) P h k = absurd k
add_from p q (inf false) (inf false) P h k = tt
add_from p q (inf false) (fin t n d) P h k = tt
add_from p q (fin true m e) y P h k = absurd h
add_from p q (fin false m e) nan P h k = tt
add_from p q (fin false m e) (inf t) P h k = k
add_from p q (fin false m e) (fin true n d) P h k = absurd k
add_from p q (fin false m e) (fin false n d) P h k =
    round_from (m * up e * down d + n * up d * down e) (down e * down d) (p + q) (mul-pos (down_pos e) (down_pos d)) P
    (both p q (m * up e) (n * up d) (down e) (down d) (leb→le (p * down e) (m * up e * 65536) h) (leb→le (q * down d) (n * up d * 65536) k))

-- ---- a number in steps of 1/256: k steps or more, and at most one step more
abbrev steps : ℕ → Float → Bool
steps k nan = false
steps k (inf s) = false
steps k (fin s m e) = leb (k * down e) (m * up e * 256)

record Steps (x : Float) : Type 0 where
  k : ℕ
  few : k ≤ 512
  least : T (steps k x)
  most : Within (suc k) 8 x

steps_of : (x : Float) → Below 1 x → Steps x
steps_of nan h = absurd h.holds
steps_of (inf s) h = absurd h.holds
steps_of (fin s m e) h =
    let n = m * up e * 256 in
    let d = down e in
    let size : m * up e ≤ 2 * d = leb→le (m * up e) (2 * d) h.holds in
    let D : 0 < d = down_pos e in
    let under : n / d < 513 = (div-lt_iff_lt-mul D).1 (omega arith) in
    let rest : n < n / d * d + d = lt-div-mul-add D in
    let wide : suc (n / d) * 256 * d ≡ (n / d * d + d) * 256 = mul_right_comm (suc (n / d)) 256 d ∙ ap (λ (x : ℕ). x * 256) (suc-mul (n / d) d) in
    record {
      k = n / d;
      few = omega arith;
      least = le→leb (n / d * d) n (div-mul-le_self n d);
      most = record { holds = le→leb (m * up e * 65536) (suc (n / d) * 256 * d) (omega arith) };
    }

-- ---- squares
square_round : (k a d : ℕ) → 0 < d → k ≤ 512 → k * d ≤ a * 256 → T (from (k * k) (round binary32 false (a * a) (d * d)))
square_round k a d D K h =
    round_from (a * a) (d * d) (k * k) (mul-pos D D) (lt_of_le_of_lt (mul-le-mul K K) (lit< tt))
    (le_trans (le_of_eq (mul-mul-mul_comm k k d d)) (le_trans (mul-le-mul h h) (le_of_eq (mul-mul-mul_comm a 256 a 256))))

square_from : (k : ℕ) (x : Float) → k ≤ 512 → T (steps k x) → T (from (k * k) (mul binary32 x x))
unfolding mul
square_from k nan K h = absurd h
square_from k (inf s) K h = absurd h
square_from k (fin true m e) K h = square_round k (m * up e) (down e) (down_pos e) K (leb→le (k * down e) (m * up e * 256) h)
square_from k (fin false m e) K h = square_round k (m * up e) (down e) (down_pos e) K (leb→le (k * down e) (m * up e * 256) h)

-- ---- what a test against a constant says
-- c is finite, and at most l / 2 ^ 16
abbrev capped : ℕ → Float → Bool
capped l nan = false
capped l (inf s) = false
capped l (fin s m e) = leb (m * up e * 65536) (l * down e)

from_le : (p l : ℕ) (x c : Float) → T (capped l c) → T (le x c) → T (from p x) → p ≤ l
unfolding le
from_le p l x nan u h k = absurd u
from_le p l x (inf t) u h k = absurd u
from_le p l nan (fin t n d) u h k = absurd h
from_le p l (inf true) (fin t n d) u h k = absurd k
from_le p l (inf false) (fin t n d) u h k = absurd h
from_le p l (fin true m e) (fin t n d) u h k = absurd k
from_le p l (fin false m e) (fin t n d) u h k =
    chain (m * up e) (down e) (n * up d) (down d) (down_pos e) (down_pos d) (leb→le (p * down e) (m * up e * 65536) k)
    (pos_le t (m * up e * down d) (n * up d * down e) h) (leb→le (n * up d * 65536) (l * down d) u)
  where
    chain : (a d b g : ℕ) → 0 < d → 0 < g → p * d ≤ a * 65536 → a * g ≤ b * d → b * 65536 ≤ l * g → p ≤ l
    chain a d b g D G i j k =
        le_of_mul-le-mul_right {k = d * g}
        (le_trans (le_of_eq (sym (mul_assoc p d g))) (le_trans (mul-le-mul_right g i) (le_trans (le_of_eq (mul_right_comm a 65536 g))
        (le_trans (mul-le-mul_right 65536 j) (le_trans (le_of_eq (mul_right_comm b d 65536)) (le_trans (mul-le-mul_right d k)
        (le_of_eq (mul_assoc l g d ∙ ap (λ (z : ℕ). l * z) (mul_comm g d)))))))))
        (mul-pos D G)

-- ---- natural numbers
-- 2 * a * b is at most a * a + b * b
pub twice : (a b : ℕ) → a * b + a * b ≤ a * a + b * b
twice a b = go (leb a b) (leb→le a b) (nleb→lt a b)
  where
    ordered : (a b : ℕ) → a ≤ b → a * b + a * b ≤ a * a + b * b
    ordered a b h =
        let e : b ≡ a + (b - a) = omega arith in
        let d = b - a in
        let l : a * (a + d) ≡ a * a + a * d = mul-add a a d in
        let r : (a + d) * (a + d) ≡ a * a + a * d + (a * d + d * d) =
        add-mul a d (a + d) ∙ ap (λ (x : ℕ). x + d * (a + d)) (mul-add a a d) ∙ ap (λ (x : ℕ). a * a + a * d + x) (mul-add d a d
        ∙ ap (λ (x : ℕ). x + d * d) (mul_comm d a)) in
        subst (λ (x : ℕ). a * x + a * x ≤ a * a + x * x) (sym e) (omega arith)

    go : (t : Bool) → (T t → a ≤ b) → (T (not t) → b < a) → a * b + a * b ≤ a * a + b * b
    go true h k = ordered a b (h tt)
    go false h k = let c : a * b ≡ b * a = mul_comm a b in let g = ordered b a (le_of_lt (k tt)) in omega arith

next_square : (k : ℕ) → suc k * suc k ≡ k * k + k + k + 1
next_square k = omega (arith, suc-mul k (suc k), mul-suc k k)

-- k steps at most 66192 in their squares, which is 1.01 of the units: one step more each adds little, by `twice` at 128 and at 148 steps
sum4 : (a b c d : ℕ) → a * a + b * b + c * c + d * d ≤ 66192 → suc a * suc a + suc b * suc b + suc c * suc c + suc d * suc d ≤ 67225
sum4 a b c d h =
    omega (arith, next_square a, next_square b, next_square c, next_square d, twice a 128, twice b 128, twice c 128, twice d 128)

sum3 : (a b c : ℕ) → a * a + b * b + c * c ≤ 66192 → suc a + suc b + suc c ≤ 512
sum3 a b c h = omega (arith, twice a 148, twice b 148, twice c 148)

few_squares : (k : ℕ) → k ≤ 512 → k * k ≤ 262144
few_squares k h = mul-le-mul h h

-- ---- the laws. 0x3f81_47ae is the binary32 number nearest 1.01
-- bounds a, b, c in steps of 1/256, which sum to 2 at most
pub record Norm3 (x y z : Float) : Type 0 where
  pub a : ℕ
  pub b : ℕ
  pub c : ℕ
  pub on_x : Within a 8 x
  pub on_y : Within b 8 y
  pub on_z : Within c 8 z
  pub sums : a + b + c ≤ 512

-- bounds in steps of 1/256, whose squares sum to 1.026 at most
pub record Norm4 (x y z w : Float) : Type 0 where
  pub a : ℕ
  pub b : ℕ
  pub c : ℕ
  pub d : ℕ
  pub on_x : Within a 8 x
  pub on_y : Within b 8 y
  pub on_z : Within c 8 z
  pub on_w : Within d 8 w
  pub sums : a * a + b * b + c * c + d * d ≤ 67225

squares3_from : {x y z : Float} (i : Steps x) (j : Steps y) (k : Steps z) → T (from (i.k * i.k + j.k * j.k + k.k * k.k) (squares3 x y z))
squares3_from {x} {y} {z} i j k =
    let xx = mul binary32 x x in
    let yy = mul binary32 y y in
    let I : i.k * i.k ≤ 262144 = few_squares i.k i.few in
    let J : j.k * j.k ≤ 262144 = few_squares j.k j.few in
    let K : k.k * k.k ≤ 262144 = few_squares k.k k.few in
    add_from (i.k * i.k + j.k * j.k) (k.k * k.k) (add binary32 xx yy) (mul binary32 z z) (omega arith)
    (add_from (i.k * i.k) (j.k * j.k) xx yy (omega arith) (square_from i.k x i.few i.least) (square_from j.k y j.few j.least))
    (square_from k.k z k.few k.least)

pub norm3 : (x y z : Float) → T (le (squares3 x y z) (of_bits binary32 0x3f81_47ae)) → Norm3 x y z
unfolding of_bits
norm3 x y z h =
    let near = unit3 (of_bits binary32 0x3f81_47ae) x y z tt h in
    let i = steps_of x near.0 in
    let j = steps_of y near.1 in
    let k = steps_of z near.2 in
    let most : i.k * i.k + j.k * j.k + k.k * k.k ≤ 66192 =
    from_le (i.k * i.k + j.k * j.k + k.k * k.k) 66192 (squares3 x y z) (of_bits binary32 0x3f81_47ae) tt h (squares3_from i j k) in
    record { a = suc i.k; b = suc j.k; c = suc k.k; on_x = i.most; on_y = j.most; on_z = k.most; sums = sum3 i.k j.k k.k most }

pub norm4 : (x y z w : Float) → T (le (squares4 x y z w) (of_bits binary32 0x3f81_47ae)) → Norm4 x y z w
unfolding of_bits
norm4 x y z w h =
    let near = unit4 (of_bits binary32 0x3f81_47ae) x y z w tt h in
    let i = steps_of x near.0 in
    let j = steps_of y near.1 in
    let k = steps_of z near.2 in
    let l = steps_of w near.3 in
    let I : i.k * i.k ≤ 262144 = few_squares i.k i.few in
    let J : j.k * j.k ≤ 262144 = few_squares j.k j.few in
    let K : k.k * k.k ≤ 262144 = few_squares k.k k.few in
    let L : l.k * l.k ≤ 262144 = few_squares l.k l.few in
    let all = i.k * i.k + j.k * j.k + k.k * k.k in
    let most : all + l.k * l.k ≤ 66192 =
    from_le (all + l.k * l.k) 66192 (squares4 x y z w) (of_bits binary32 0x3f81_47ae) tt h
    (add_from all (l.k * l.k) (squares3 x y z) (mul binary32 w w) (omega arith) (squares3_from i j k) (square_from l.k w l.few l.least)) in
    record {
      a = suc i.k;
      b = suc j.k;
      c = suc k.k;
      d = suc l.k;
      on_x = i.most;
      on_y = j.most;
      on_z = k.most;
      on_w = l.most;
      sums = sum4 i.k j.k k.k l.k most;
    }

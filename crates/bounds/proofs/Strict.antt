-- What is below another is not at or above it. Assumes nothing.
use mathlib.Core.Path.{◌≡◌, refl, sym}
use Prim.Native.Nat.{ℕ, ◌+◌, ◌*◌, ◌<◌}
use native.Mathlib.Omega.{arith}
use mathlib.Core.Bool.{Bool, true, false, ◌&&◌, ◌||◌, true≢false}
use lib.Dec.{T, ltb, eqb, ltb→lt, eqb→eq}
use lib.Ieee.{Float, nan, inf, fin, up, down, below, level, lt, le}
use lib.Ieee.Fits.{and_l, and_r}

neither : (x y : Bool) → (T x → ⊥) → (T y → ⊥) → x || y ≡ false
neither true y p q = absurd (p tt)
neither false true p q = absurd (q tt)
neither false false p q = refl

pub passed : (x : Bool) → x ≡ true → T x
passed true e = tt
passed false e = absurd (true≢false (sym e))

-- sizes a and b, with their signs
sized : (s : Bool) (a : ℕ) (t : Bool) (b : ℕ) → T (below s a t b) → below t b s a || level t b s a ≡ false
sized false a false b h =
    let l : a < b = ltb→lt a b h in
    neither (ltb b a) (eqb b a && true) (λ k. two a b l (ltb→lt b a k)) (λ k. one a b l (eqb→eq b a (and_l (eqb b a) true k)))
  where
    two : (a b : ℕ) → a < b → b < a → ⊥
    two a b h k = omega arith

    one : (a b : ℕ) → a < b → b ≡ a → ⊥
    one a b h k = omega arith
sized false a true b h = absurd h
sized true a false b h =
    let l : 0 < a + b = ltb→lt 0 (a + b) h in
    neither false (eqb b a && eqb b 0) (λ k. k)
    (λ k. none (eqb→eq b a (and_l (eqb b a) (eqb b 0) k)) (eqb→eq b 0 (and_r (eqb b a) (eqb b 0) k)) l)
  where
    none : b ≡ a → b ≡ 0 → 0 < a + b → ⊥
    none e z l = omega arith
sized true a true b h =
    let l : b < a = ltb→lt b a h in
    neither (ltb a b) (eqb b a && true) (λ k. two (ltb→lt a b k) l) (λ k. one (eqb→eq b a (and_l (eqb b a) true k)) l)
  where
    two : a < b → b < a → ⊥
    two h k = omega arith

    one : b ≡ a → b < a → ⊥
    one h k = omega arith

pub not_le_of_lt : (x y : Float) → lt x y ≡ true → le y x ≡ false
unfolding lt le
not_le_of_lt nan y h = absurd (true≢false (sym h))
not_le_of_lt (inf s) nan h = absurd (true≢false (sym h))
not_le_of_lt (inf false) (inf t) h = absurd (true≢false (sym h))
not_le_of_lt (inf true) (inf true) h = absurd (true≢false (sym h))
not_le_of_lt (inf true) (inf false) h = refl
not_le_of_lt (inf false) (fin t n d) h = absurd (true≢false (sym h))
not_le_of_lt (inf true) (fin t n d) h = refl
not_le_of_lt (fin s m e) nan h = absurd (true≢false (sym h))
not_le_of_lt (fin s m e) (inf true) h = absurd (true≢false (sym h))
not_le_of_lt (fin s m e) (inf false) h = refl
not_le_of_lt (fin s m e) (fin t n d) h = sized s (m * up e * down d) t (n * up d * down e) (passed (below s (m * up e * down d) t (n * up d * down e)) h)

-- The least of finite lanes is finite, and either test of their order finds it. Assumes nothing.
use mathlib.Core.Path.{◌≡◌, refl, sym, subst}
use mathlib.Core.Bool.{Bool, true, false, cond, not, ◌&&◌, ◌||◌}
use Prim.Native.Nat.{ℕ, ◌+◌}
use native.Mathlib.Omega.{arith}
use lib.Dec.{T, eqb, ltb}
use lib.Ieee as Ieee
use lib.Ieee.{Float, nan, inf, fin, below, level}
use lib.Ieee.Scale.{finite}
use borrow.Author.Tests.{ltb-true, ltb-false, lt-ltb, le-ltb, eqb-true, eqb-false, eq-eqb, ne_eqb}
use Rattle.bounds.proofs.Laws.{picked}
use Rattle.lanes.specs.Lanes.{least_of, lesser_of}

pub least_finite : (a b : Float) → T (finite a) → T (finite b) → T (finite (least_of a b))
unfolding least_of
least_finite a b p q = picked (λ (x : Float). T (finite x)) (Ieee.le a b) p q

pub lesser_finite : {r : Float} (held next : Float) → r ≡ lesser_of held next → T (finite held) → T (finite next) → T (finite r)
unfolding lesser_of
lesser_finite held next e p q = subst (λ (x : Float). T (finite x)) (sym e) (picked (λ (x : Float). T (finite x)) (Ieee.lt next held) q p)

-- ---- of two finite numbers the first is at most the second exactly where the second is not below the first
least_magnitude : (x y : ℕ) (q : Bool) → eqb x y ≡ q → (ltb x y || (q && true)) ≡ not (ltb y x)
least_magnitude x y q e = by (ltb y x) q refl e
  where
    by : (p q : Bool) → ltb y x ≡ p → eqb x y ≡ q → (ltb x y || (q && true)) ≡ not (ltb y x)
    by true true h e = absurd (omega (arith, ltb-true y x h, eqb-true x y e))
    by true false h e = rw (h, le-ltb x y (omega (arith, ltb-true y x h)))
    by false true h e = rw (h, le-ltb x y (omega (arith, eqb-true x y e)))
    by false false h e = rw (h, lt-ltb x y (omega (arith, ltb-false y x h, eqb-false x y e)))

equal_turned : (x y : ℕ) (q : Bool) → eqb x y ≡ q → eqb y x ≡ q
equal_turned x y true e = eq-eqb y x (sym (eqb-true x y e))
equal_turned x y false e = ne_eqb y x (λ z. eqb-false x y e (sym z))

either : (s t : Bool) (x y : ℕ) → (below s x t y || level s x t y) ≡ not (below t y s x)
either false false x y = least_magnitude x y (eqb x y) refl
either true true x y = least_magnitude y x (eqb x y) (equal_turned x y (eqb x y) refl)
either true false x y = by (ltb 0 (x + y)) refl
  where
    by : (p : Bool) → ltb 0 (x + y) ≡ p → (ltb 0 (x + y) || (eqb x y && (false || eqb x 0))) ≡ true
    by true h = rw h
    by false h = rw (h, eq-eqb x y (omega (arith, ltb-false 0 (x + y) h)), eq-eqb x 0 (omega (arith, ltb-false 0 (x + y) h)))
either false true x y = by (ltb 0 (y + x)) (eqb x y) refl refl
  where
    by : (p q : Bool) → ltb 0 (y + x) ≡ p → eqb x y ≡ q → (eqb x y && (false || eqb x 0)) ≡ not (ltb 0 (y + x))
    by true true h e = rw (h, e, ne_eqb x 0 (λ z. omega (arith, z, eqb-true x y e, ltb-true 0 (y + x) h)))
    by true false h e = rw (h, e)
    by false q h e = rw (h, eq-eqb x y (omega (arith, ltb-false 0 (y + x) h)), eq-eqb x 0 (omega (arith, ltb-false 0 (y + x) h)))

-- so the second is the least where it is below the first, and else the first
pub least_by : (a b : Float) (z : Bool) → T (finite a) → T (finite b) → Ieee.lt b a ≡ z → cond z b a ≡ least_of a b
unfolding least_of Ieee.le Ieee.lt Ieee.eq
least_by nan b z p q e = absurd p
least_by (inf s) b z p q e = absurd p
least_by (fin s m e) nan z p q h = absurd q
least_by (fin s m e) (inf t) z p q h = absurd q
least_by (fin s m e) (fin t n d) z p q h = rw (either s t _ _, h) (turned z (fin s m e) (fin t n d))
  where
    turned : (z : Bool) (x y : Float) → cond z y x ≡ cond (not z) x y
    turned true x y = refl
    turned false x y = refl

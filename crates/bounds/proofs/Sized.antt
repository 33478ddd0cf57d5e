-- At most another number in size: what is between two numbers that are is so too, and it is what a test of both ends says. Assumes nothing.
use mathlib.Core.Path.{◌≡◌, refl}
use mathlib.Core.Bool.{Bool, true, false, ◌||◌}
use Prim.Native.Nat.{ℕ, ◌+◌, ◌*◌, ◌≤◌, ◌<◌}
use native.Mathlib.Nat.{le_trans, le_of_eq, mul_right_comm, mul-le-mul_right, le_of_mul-le-mul_right}
use native.Mathlib.Omega.{arith}
use lib.Dec.{T, leb, leb→le, le→leb}
use lib.Ieee.{Float, nan, inf, fin, up, down, below, level, le, neg}
use lib.Ieee.Fits.{down_pos}
use borrow.Author.Tests.{ltb-false, eq-eqb}
use Rattle.bounds.proofs.Laws.{pos_le, neg_le}

-- c is finite and not negative, x is finite and at most c in size
abbrev pub sized : Float → Float → Bool
sized nan x = false
sized (inf t) x = false
sized (fin true n d) x = false
sized (fin false n d) nan = false
sized (fin false n d) (inf s) = false
sized (fin false n d) (fin s m e) = leb (m * up e * down d) (n * up d * down e)

carried : (a d b g p q : ℕ) → 0 < g → a * g ≤ b * d → b * q ≤ p * g → a * q ≤ p * d
carried a d b g p q G h k =
    le_of_mul-le-mul_right
    (le_trans (le_of_eq (mul_right_comm a q g))
    (le_trans (mul-le-mul_right q h)
    (le_trans (le_of_eq (mul_right_comm b d q)) (le_trans (mul-le-mul_right d k) (le_of_eq (mul_right_comm p g d)))))) G

pub sized_between : (c lo hi x : Float) → T (sized c lo) → T (sized c hi) → T (le lo x) → T (le x hi) → T (sized c x)
unfolding le
sized_between nan lo hi x p q l h = absurd p
sized_between (inf t) lo hi x p q l h = absurd p
sized_between (fin true i a) lo hi x p q l h = absurd p
sized_between (fin false i a) nan hi x p q l h = absurd p
sized_between (fin false i a) (inf s) hi x p q l h = absurd p
sized_between (fin false i a) (fin u j b) nan x p q l h = absurd q
sized_between (fin false i a) (fin u j b) (inf t) x p q l h = absurd q
sized_between (fin false i a) (fin u j b) (fin t n d) nan p q l h = absurd l
sized_between (fin false i a) (fin u j b) (fin t n d) (inf true) p q l h = absurd l
sized_between (fin false i a) (fin u j b) (fin t n d) (inf false) p q l h = absurd h
sized_between (fin false i a) (fin u j b) (fin t n d) (fin false m e) p q l h =
    le→leb (m * up e * down a) (i * up a * down e)
    (carried (m * up e) (down e) (n * up d) (down d) (i * up a) (down a) (down_pos d) (pos_le t (m * up e * down d) (n * up d * down e) h)
    (leb→le (n * up d * down a) (i * up a * down d) q))
sized_between (fin false i a) (fin u j b) (fin t n d) (fin true m e) p q l h =
    le→leb (m * up e * down a) (i * up a * down e)
    (carried (m * up e) (down e) (j * up b) (down b) (i * up a) (down a) (down_pos b) (neg_le u (j * up b * down e) (m * up e * down b) l)
    (leb→le (j * up b * down a) (i * up a * down b) p))

-- ---- the ends: a at most b in size lies from -b to b
otherwise : (p q : Bool) → (p ≡ false → q ≡ true) → (p || q) ≡ true
otherwise true q h = refl
otherwise false q h = h refl

high_end : (s : Bool) (a b : ℕ) → a ≤ b → (below s a false b || level s a false b) ≡ true
high_end false a b h = otherwise _ _ (λ t. rw (eq-eqb a b (omega (arith, ltb-false a b t))))
high_end true a b h = otherwise _ _ (λ t. let z = ltb-false 0 (a + b) t in rw (eq-eqb a b (omega arith), eq-eqb a 0 (omega arith)))

low_end : (s : Bool) (a b : ℕ) → a ≤ b → (below true b s a || level true b s a) ≡ true
low_end true a b h = otherwise _ _ (λ t. rw (eq-eqb b a (omega (arith, ltb-false a b t))))
low_end false a b h = otherwise _ _ (λ t. let z = ltb-false 0 (b + a) t in rw (eq-eqb b a (omega arith), eq-eqb b 0 (omega arith)))

pub sized_ends : (c x : Float) → T (sized c x) → (le (neg c) x ≡ true) × (le x c ≡ true)
unfolding le neg
sized_ends nan x p = absurd p
sized_ends (inf t) x p = absurd p
sized_ends (fin true n d) x p = absurd p
sized_ends (fin false n d) nan p = absurd p
sized_ends (fin false n d) (inf s) p = absurd p
sized_ends (fin false n d) (fin s m e) p =
    let h = leb→le (m * up e * down d) (n * up d * down e) p in
    (low_end s _ _ h, high_end s _ _ h)

pub sized_opposite : (c x : Float) → T (sized c x) → T (sized c (neg x))
unfolding neg
sized_opposite nan x p = absurd p
sized_opposite (inf t) x p = absurd p
sized_opposite (fin true n d) x p = absurd p
sized_opposite (fin false n d) nan p = absurd p
sized_opposite (fin false n d) (inf s) p = absurd p
sized_opposite (fin false n d) (fin s m e) p = p

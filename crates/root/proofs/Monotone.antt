-- A larger number has no smaller root. Assumes nothing.
use mathlib.Core.Path.{subst}
use Prim.Native.Nat.{ℕ, zero, suc, ◌*◌, ◌^◌, ◌≤◌}
use native.Mathlib.Nat.{le_trans, le_of_eq, mul_right_comm, mul-le-mul_right}
use mathlib.Core.Bool.{true, false}
use lib.IntN.{ℤ}
use lib.Dec.{T}
use lib.Pow.{pow_pos}
use lib.Ieee.{Float, nan, inf, fin, binary32, up, down, fits, le, to_bits}
use lib.Ieee.Fits.{down_pos}
use lib.Ieee.Bits.{of_bits-to_bits}
use lib.Ieee.Exact.{HasValue}
use lib.Ieee.Order.{le_of_values}
use lib.Ieee.Positive.{above, positive, above_of_le, le→cross}
use Rattle.root.specs.Root.{units, root_of}
use Rattle.root.proofs.Facts.{Rooted, facts}
use Rattle.root.proofs.Values.{value}
use Rattle.root.proofs.Meaning.{ordered}
use Rattle.root.proofs.Closest.{opened, units_mono}
use Rattle.root.proofs.Worked.{root_of_lem, root_fits}

-- ---- a finite number above zero: its root, the root's pattern, and what that is worth
module _ (m : ℕ) (e : ℤ) where
  abbrev number : Float
  number = fin false (suc m) e

  abbrev bits : ℕ
  bits = to_bits binary32 (root_of number)

  -- so many squares of units, over `down e`
  abbrev squares : ℕ
  squares = suc m * up e * 2 ^ 298

  module _ (f : T (fits binary32 number)) where
    met : Rooted squares (down e) bits
    met = facts squares (down e) bits (opened m e (root_of number) (root_of_lem number f))

    worth : HasValue (root_of number) false (units bits) (2 ^ 149)
    worth =
        subst (λ (w : Float). HasValue w false (units bits) (2 ^ 149)) (of_bits-to_bits binary32 (root_of number) (root_fits number f))
        (value bits met.hi)

finite_mono : (m : ℕ) (e : ℤ) (n : ℕ) (d : ℤ) → T (fits binary32 (number m e)) → T (fits binary32 (number n d))
    → suc m * up e * down d ≤ suc n * up d * down e → T (le (root_of (number m e)) (root_of (number n d)))
finite_mono m e n d f g h =
    let more : squares m e * down d ≤ squares n d * down e =
    le_trans (le_of_eq (mul_right_comm (suc m * up e) (2 ^ 298) (down d)))
    (le_trans (mul-le-mul_right (2 ^ 298) h) (le_of_eq (mul_right_comm (suc n * up d) (down e) (2 ^ 298)))) in
    let upward : bits m e ≤ bits n d =
    ordered (squares m e) (down e) (squares n d) (down d) (bits m e) (bits n d) (down_pos e) (down_pos d) more (met m e f) (met n d g) in
    le_of_values (root_of (number m e)) (root_of (number n d)) (units (bits m e)) (2 ^ 149) (units (bits n d)) (2 ^ 149) (pow_pos 149) (pow_pos 149)
    (worth m e f) (worth n d g) (mul-le-mul_right (2 ^ 149) (units_mono (bits m e) (bits n d) upward))

-- plus infinity is its own root
below_infinity : (r : Float) (u : ℕ) → HasValue r false u (2 ^ 149) → T (le r (root_of (inf false)))
unfolding le root_of
below_infinity nan u h = absurd h
below_infinity (inf s) u h = absurd h
below_infinity (fin s m e) u h = tt

-- ---- any number that is no less than a finite one above zero
pub root_mono : (x y : Float) → T (fits binary32 x) → T (fits binary32 y) → T (positive x) → T (le x y) → T (le (root_of x) (root_of y))
root_mono nan y f g p h = absurd p
root_mono (inf s) y f g p h = absurd p
root_mono (fin true m e) y f g p h = absurd p
root_mono (fin false zero e) y f g p h = absurd p
root_mono (fin false (suc m) e) y f g p h = go y g (above_of_le (number m e) y p h) h
  where
    go : (y : Float) → T (fits binary32 y) → T (above y) → T (le (number m e) y) → T (le (root_of (number m e)) (root_of y))
    go nan g a h = absurd a
    go (inf true) g a h = absurd a
    go (inf false) g a h = below_infinity (root_of (number m e)) _ (worth m e f)
    go (fin true n d) g a h = absurd a
    go (fin false zero d) g a h = absurd a
    go (fin false (suc n) d) g a h = finite_mono m e n d f g (le→cross (number m e) (number n d) p a h)

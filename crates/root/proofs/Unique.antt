-- `is_root x` accepts at most one value of binary32. Assumes nothing.
use mathlib.Core.Path.{◌≡◌, refl, sym, ap, ◌∙◌}
use Prim.Native.Nat.{ℕ, zero, suc, ◌*◌, ◌^◌, ◌<◌}
use native.Mathlib.Nat.{pow-succ', mul-one, one-mul}
use native.Mathlib.Omega.{arith}
use mathlib.Core.Bool.{Bool, true, false, beq}
use lib.IntN.{ℤ, pos, negsuc}
use lib.Dec.{T, eqb→eq}
use lib.Pow.{pow_pos}
use lib.Ieee.{Float, nan, inf, fin, binary32, up, down, fits, is_nan, to_bits, of_bits}
use lib.Ieee.Fits.{down_pos}
use lib.Ieee.Bits.{of_bits-to_bits}
use Rattle.root.specs.Root.{is_inf, is_zero, is_root}
use Rattle.root.proofs.Facts.{facts}
use Rattle.root.proofs.Meaning.{one}

is_nan_lem : (r : Float) → T (is_nan r) → r ≡ nan
unfolding is_nan
is_nan_lem nan h = refl
is_nan_lem (inf s) h = absurd h
is_nan_lem (fin s m e) h = absurd h

is_inf_lem : (r : Float) → T (is_inf r) → r ≡ inf false
is_inf_lem nan h = absurd h
is_inf_lem (inf true) h = absurd h
is_inf_lem (inf false) h = refl
is_inf_lem (fin s m e) h = absurd h

no_power : (x y : ℕ) → x ≡ 2 * y → 0 < y → x ≡ 1 → ⊥
no_power x y e p h = omega arith

-- the format holds a zero with the exponent 0 only
no_exponent : (e : ℤ) → up e * down e ≡ 1 → e ≡ pos 0
no_exponent (pos zero) h = refl
no_exponent (pos (suc a)) h = absurd (no_power (2 ^ suc a) (2 ^ a) (pow-succ' 2 a) (pow_pos a) (sym (mul-one (2 ^ suc a)) ∙ h))
no_exponent (negsuc a) h = absurd (no_power (2 ^ suc a) (2 ^ a) (pow-succ' 2 a) (pow_pos a) (sym (one-mul (2 ^ suc a)) ∙ h))

same_sign : (s t : Bool) → T (beq s t) → t ≡ s
same_sign true true h = refl
same_sign true false h = absurd h
same_sign false true h = absurd h
same_sign false false h = refl

is_zero_lem : (s : Bool) (r : Float) → T (fits binary32 r) → T (is_zero s r) → r ≡ fin s 0 (pos 0)
unfolding fits
is_zero_lem s nan f h = absurd h
is_zero_lem s (inf t) f h = absurd h
is_zero_lem s (fin t zero e) f h = ap (λ (e : ℤ). fin t 0 e) (no_exponent e (eqb→eq (up e * down e) 1 f)) ∙ ap (λ (t : Bool). fin t 0 (pos 0)) (same_sign s t h)
is_zero_lem s (fin t (suc m) e) f h = absurd h

same_bits : (r s : Float) → T (fits binary32 r) → T (fits binary32 s) → to_bits binary32 r ≡ to_bits binary32 s → r ≡ s
same_bits r s f g e = sym (of_bits-to_bits binary32 r f) ∙ ap (of_bits binary32) e ∙ of_bits-to_bits binary32 s g

pub unique : (x r s : Float) → T (fits binary32 r) → T (fits binary32 s) → T (is_root x r) → T (is_root x s) → r ≡ s
unfolding is_root
unique nan r s f g h k = is_nan_lem r h ∙ sym (is_nan_lem s k)
unique (inf true) r s f g h k = is_nan_lem r h ∙ sym (is_nan_lem s k)
unique (inf false) r s f g h k = is_inf_lem r h ∙ sym (is_inf_lem s k)
unique (fin t zero e) r s f g h k = is_zero_lem t r f h ∙ sym (is_zero_lem t s g k)
unique (fin true (suc m) e) r s f g h k = is_nan_lem r h ∙ sym (is_nan_lem s k)
unique (fin false (suc m) e) r s f g h k =
    same_bits r s f g
    (one (suc m * up e * 2 ^ 298) (down e) (to_bits binary32 r) (to_bits binary32 s) (down_pos e)
    (facts (suc m * up e * 2 ^ 298) (down e) (to_bits binary32 r) h)
    (facts (suc m * up e * 2 ^ 298) (down e) (to_bits binary32 s) k))

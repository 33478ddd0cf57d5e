-- A float whose low seven bits are replaced by a number is finite where it was, and holds that number. Assumes nothing.
use mathlib.Core.Path.{◌≡◌, ap, ◌∙◌, subst}
use Prim.Native.Nat.{ℕ, ◌+◌, ◌-◌, ◌%◌, ◌<◌}
use native.Mathlib.Nat.{le_of_lt}
use native.Mathlib.Omega.{arith}
use mathlib.Core.Bool.{Bool, not}
use lib.Dec.{T}
use lib.Ieee.{Float, binary32, fits, nan_bits, to_bits}
use lib.Ieee.Bits.{to_bits-lt, of_bits-fits, to_bits-of_bits, nan_bits_is}
use lib.Ieee.Scale.{finite}
use Rattle.bounds.specs.LowBits.{pattern_of, embed_of, index_of}
use Rattle.bounds.proofs.Bits.{finite_bits, bits_finite, pattern_ok}

-- ---- bits b, their low seven replaced by i: they fit 32 places, stay below the infinity's, and end in i
swap_lt : (b i : ℕ) → b < 4294967296 → i < 128 → b - b % 128 + i < 4294967296
swap_lt b i B il = omega arith

swap_under : (b i : ℕ) → b % 2147483648 < 2139095040 → i < 128 → (b - b % 128 + i) % 2147483648 < 2139095040
swap_under b i B il = omega arith

swap_low : (b i : ℕ) → i < 128 → (b - b % 128 + i) % 128 ≡ i
swap_low b i il = omega arith

module _ (v : Float) (i : ℕ) (F : T (fits binary32 v)) (fv : T (finite v)) (il : i < 128) where
  pub pattern_lt : pattern_of v i < 4294967296
  unfolding pattern_of
  pattern_lt = swap_lt (to_bits binary32 v) i (to_bits-lt binary32 v F) il

  pattern_under : pattern_of v i % 2147483648 < 2139095040
  unfolding pattern_of
  pattern_under = swap_under (to_bits binary32 v) i (finite_bits v F fv) il

  pub pattern_no_nan : T (not (nan_bits binary32 (pattern_of v i)))
  pattern_no_nan = pattern_ok (pattern_of v i) (le_of_lt pattern_under)

  pub embed_finite : T (finite (embed_of v i))
  unfolding embed_of
  embed_finite = bits_finite (pattern_of v i) pattern_lt pattern_under

  pub embed_bits : to_bits binary32 (embed_of v i) ≡ pattern_of v i
  unfolding embed_of
  embed_bits = to_bits-of_bits binary32 (pattern_of v i) pattern_lt (subst (λ (b : Bool). T (not b)) (nan_bits_is binary32 (pattern_of v i)) pattern_no_nan)

  pub embed_index : index_of (embed_of v i) ≡ i
  unfolding index_of pattern_of
  embed_index = ap (λ (x : ℕ). x % 128) embed_bits ∙ swap_low (to_bits binary32 v) i il

pub embed_fits : (v : Float) (i : ℕ) → T (fits binary32 (embed_of v i))
unfolding embed_of
embed_fits v i = of_bits-fits binary32 (pattern_of v i)

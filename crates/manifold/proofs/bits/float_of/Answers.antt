-- Bits above the infinity's, the sign left out, are a NaN's, and no others are.
use mathlib.Core.Path.{sym}
use native.Mathlib.Omega.{arith}
use lib.Ieee.{of_bits, div}
use Rattle.bounds.proofs.Bits.{pattern_nan, pattern_ok}
use Rattle.manifold.proofs.bits.float_of.Goals as goal

pub returns-then-n-gt2139095040 : goal.returns-then-n-gt2139095040
unfolding of_bits div
returns-then-n-gt2139095040 c = sym (pattern_nan c.args.n (omega arith))

pub float_from_bits-result : goal.float_from_bits-result
float_from_bits-result c = pattern_ok c.args.n (omega arith)

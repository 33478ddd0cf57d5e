-- What differs from itself is the NaN, and nothing else is.
use mathlib.Core.Path.{sym, ap, subst}
use lib.Dec.{T}
use lib.Ieee.{binary32, to_bits}
use lib.Ieee.Compare.{differs_from_itself}
use Rattle.bounds.proofs.Bits.{equals_itself}
use Rattle.manifold.proofs.bits.bits_of.Goals as goal

pub returns-then-x : goal.returns-then-x
unfolding to_bits
returns-then-x c = sym (ap (to_bits binary32) (differs_from_itself c.args.x (subst T (sym c.if-x.true) tt)))

pub float_to_bits-result : goal.float_to_bits-result
float_to_bits-result c = equals_itself c.args.x c.if-x.false

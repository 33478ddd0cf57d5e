-- A finite number keeps no NaN's bits when its low seven are replaced, so both ways between floats and bits are defined.
use borrow.Author.Rules.{rules}
use lib.Dec.{T}
use lib.Ieee.{binary32, fits}
use mathlib.Core.Path.{sym, subst}
use Rattle.bounds.specs.LowBits.{pattern_of, embed_of}
use Rattle.bounds.proofs.Laws.{no_nan}
use Rattle.bounds.proofs.LowBits.{pattern_lt, pattern_no_nan}
use Rattle.lanes.proofs.embed_index.Goals as goal
use Rattle.lanes.proofs.embed_index.Goals.{Start}

-- what owning an `f32` tells: the format holds it
held : (c : Start) → T (fits binary32 c.args.value)
held c = subst T (sym c.well_formed.0.1) tt

pub float_to_bits-bits : goal.float_to_bits-bits
float_to_bits-bits c = no_nan c.args.value c.requires.0

pub overflow_add-result : goal.overflow_add-result
unfolding pattern_of
overflow_add-result c = record { fits = pattern_lt c.args.value c.args.i (held c) c.requires.0 c.requires.1 }

pub float_from_bits-result : goal.float_from_bits-result
unfolding pattern_of
float_from_bits-result c = pattern_no_nan c.args.value c.args.i (held c) c.requires.0 c.requires.1

pub returns : goal.returns
unfolding embed_of pattern_of
returns c = search rules

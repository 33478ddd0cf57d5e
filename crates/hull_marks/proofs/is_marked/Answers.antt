-- The word shifted by the bit's place is odd where the bit is set.
use mathlib.Core.Path.{refl}
use Rattle.hull_marks.specs.inner.Marks.{bit_of, mark_of}
use Rattle.hull_marks.proofs.is_marked.Goals as goal

pub returns : goal.returns
unfolding mark_of bit_of
returns c = refl

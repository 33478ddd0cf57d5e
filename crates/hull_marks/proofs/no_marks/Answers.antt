-- Four words of zero.
use mathlib.Core.Path.{refl}
use Rattle.hull_marks.specs.inner.Marks.{no_marks}
use Rattle.hull_marks.proofs.no_marks.Goals as goal

pub returns : goal.returns
unfolding no_marks
returns c = refl

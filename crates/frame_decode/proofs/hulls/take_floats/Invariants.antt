-- Each turn writes one float behind those that stand.
use Rattle.lists.specs.Written.{Wrote}
use Rattle.frame_decode.specs.Fields.{floats_at}
use Rattle.frame_decode.proofs.hulls.take_floats.Given as goal

abbrev pub invariant-loop-i : goal.invariant-loop-i
invariant-loop-i l = Wrote l.initial.numbers l.from (floats_at l.frame l.at l.i) l.numbers

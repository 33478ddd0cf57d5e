-- `fill`: a filling loop.
use Rattle.axis_lists.specs.inner.Fills.{Given}
use Rattle.axis_lists.proofs.fill.Given as goal

abbrev pub invariant-loop-k : goal.invariant-loop-k
invariant-loop-k g l = Given (goal.F-post g l.f) l.at l.k l.initial.out l.out

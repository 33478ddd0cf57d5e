-- `least`: of finite numbers the strict test of the second finds the case of both definitions.
use mathlib.Core.Bool.{true, false}
use Rattle.lanes.specs.Lanes.{lesser_of}
use Rattle.lanes.proofs.Laws.{least_by}
use Rattle.lanes.proofs.least.Goals as goal

pub returns-then-b-a : goal.returns-then-b-a
unfolding lesser_of
returns-then-b-a c =
    let r = c.requires in
    record { least = least_by _ _ true r.0 r.1 c.if-b-a.true; lesser = simp c.if-b-a.true; bounded = r.1 }

pub returns-else-b-a : goal.returns-else-b-a
unfolding lesser_of
returns-else-b-a c =
    let r = c.requires in
    record { least = least_by _ _ false r.0 r.1 c.if-b-a.false; lesser = simp c.if-b-a.false; bounded = r.0 }

-- Six ways through the tests, one for each arm of the definition.
use Rattle.clip_cut.proofs.Cutting.{out_kept, out_leaving, out_entering, out_none_1, out_none_2, out_none_3}
use Rattle.clip_cut.proofs.Crossing.put_out.Goals as goal

pub returns-then-d2 : goal.returns-then-d2
returns-then-d2 c = out_kept _ _ _ _ _ _ _ _ _ _ _ _ _ c.if-d1.true
    c.if-d2.true c.put.ensures

pub returns-then-d2-2 : goal.returns-then-d2-2
returns-then-d2-2 c = out_leaving _ _ _ _ _ _ _ _ _ _ _ _ _ c.if-d1.true
    c.if-d2.false
    c.if-d2-2.true _
    c.leaving-v.ensures c.put-then-d2-2.ensures

pub returns-then-d1 : goal.returns-then-d1
returns-then-d1 c = out_none_1 _ _ _ _ _ _ _ _ _ _ c.if-d1.true c.if-d2.false c.if-d2-2.false

pub returns-then-d2-3 : goal.returns-then-d2-3
returns-then-d2-3 c = out_entering _ _ _ _ _ _ _ _ _ _ _ _ _
    c.if-d1.false c.if-d1-2.true c.if-d2-3.true _ c.entering-v.ensures _ _ _ c.put-m.ensures
    c.put-then-d2-3.ensures

pub returns-else-d2-3 : goal.returns-else-d2-3
returns-else-d2-3 c = out_none_2 _ _ _ _ _ _ _ _ _ _ c.if-d1.false c.if-d1-2.true c.if-d2-3.false

pub returns-else-d1-2 : goal.returns-else-d1-2
returns-else-d1-2 c = out_none_3 _ _ _ _ _ _ _ _ _ _ c.if-d1.false c.if-d1-2.false

-- Five tests in a row.
use Rattle.step.proofs.Rooms.{no_judged, no_transforms, no_caches, no_floats, last_bytes}
use Rattle.step.proofs.room.Goals as goal

pub returns-then-judged-hulls : goal.returns-then-judged-hulls
returns-then-judged-hulls c = no_judged _ _ _ _ _ _ _ c.if-judged-hulls.true

pub returns-then-transforms-n : goal.returns-then-transforms-n
returns-then-transforms-n c = no_transforms _ _ _ _ _ _ _ c.if-transforms-n.true

pub returns-then-caches-n : goal.returns-then-caches-n
returns-then-caches-n c = no_caches _ _ _ _ _ _ _ c.if-caches-n.true

pub returns-then-floats-n : goal.returns-then-floats-n
returns-then-floats-n c = no_floats _ _ _ _ _ _ _ c.if-floats-n.true

pub returns : goal.returns
returns c = last_bytes _ _ _ _ _ _ _ c.if-judged-hulls.false c.if-transforms-n.false c.if-caches-n.false c.if-floats-n.false

-- The nexts of the half-edges before the one at hand are marked and differ.
use mathlib.Core.Path.{sym, ◌∙◌}
use native.Mathlib.Omega.{arith}
use Rattle.hull_links.specs.Rules.{h5}
use Rattle.hull_links.proofs.Tests.{all_none, all_more, all_done, all_fails}
use Rattle.hull_rules.proofs.Marks.{next_small, nexts_none, nexts_more, not_new, is_new}
use Rattle.hull_rules.proofs.tests.nexts_right.Goals as goal

pub loop-i-init : goal.loop-i-init
loop-i-init c = (all_none _, nexts_none _ _ c.no_marks-marks.ensures)

pub is_marked-requires : goal.is_marked-requires
is_marked-requires c = let n = c.before in
    let p = n.requires in
    omega (arith, next_small _ _ _ _ p.0 p.1 n.loop-i-test.true n.next_of-t.ensures)

pub returns-then-is_marked : goal.returns-then-is_marked
unfolding h5
returns-then-is_marked c = let n = c.before.before.before in
    sym (all_fails _ _ _ n.loop-i-test.true
    (not_new _ _ _ _ _ n.next_of-t.ensures n.loop-i.invariant.1 (sym c.is_marked.ensures ∙ c.if-is_marked.true)))

pub set_mark-requires : goal.set_mark-requires
set_mark-requires c = let n = c.before.before.before.before in
    let p = n.requires in
    omega (arith, next_small _ _ _ _ p.0 p.1 n.loop-i-test.true n.next_of-t.ensures)

pub loop-i-preserved : goal.loop-i-preserved
loop-i-preserved c = let tested = c.before.before in
    let n = tested.before.before.before in
    let l = n.before.before in
    let p = l.requires in (
      all_more _ _ l.loop-i.invariant.0
          (is_new _ _ _ _ _ n.next_of-t.ensures l.loop-i.invariant.1 (sym tested.is_marked.ensures ∙ tested.if-is_marked.false)),
      nexts_more _ _ _ _ _ (next_small _ _ _ _ p.0 p.1 n.loop-i-test.true n.next_of-t.ensures) n.next_of-t.ensures
          l.loop-i.invariant.1 c.set_mark.ensures,
    )

pub returns : goal.returns
unfolding h5
returns c = sym (all_done _ _ _ c.loop-i.auto.i-end c.loop-i-test.false c.loop-i.invariant.0)

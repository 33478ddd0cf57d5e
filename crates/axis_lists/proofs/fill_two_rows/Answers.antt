-- `fill_two_rows`: both rows grow by one dot a turn.
use Rattle.axis_lists.proofs.Lists.{two_more}
use Rattle.axis_lists.specs.inner.Lists.{vector_in}
use Rattle.axis_edges.specs.Edges.{dot_right}
use lib.ListN.{length-set}
use mathlib.Core.Path.{◌≡◌, ap, ◌∙◌}
use native.Mathlib.Omega.{arith}
use Rattle.axis_lists.proofs.fill_two_rows.Goals as goal

pub loop-i-preserved : goal.loop-i-preserved
loop-i-preserved c =
    let l = c.loop-i in
    let p = c.requires in
    let a = c.args in
    let u = c.vector_in-u.ensures in
    let e : c.dot_right.result ≡ dot_right a.v (vector_in a.lists.now l.i) = c.dot_right.ensures ∙ ap (dot_right a.v) u in
    let d : c.dot_right-in-loop-i.result ≡ dot_right a.w (vector_in a.lists.now l.i) = c.dot_right-in-loop-i.ensures ∙ ap (dot_right a.w) u in (
      simp length-set l.invariant.0,
      two_more a.v a.w _ _ l.invariant.1.0 l.invariant.1.1 p.2 (omega (arith, p.3, l.invariant.0)) c.loop-i-test.true e d,
    )

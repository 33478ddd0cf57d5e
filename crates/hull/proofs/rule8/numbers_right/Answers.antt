-- `numbers_right`: a test that fails is one that H8 asks for, and where the others pass the last decides.
use mathlib.Core.Bool.{not}
use mathlib.Core.Path.{ap, sym, ◌∙◌}
use native.Mathlib.Omega.{arith}
use Rattle.hull.proofs.Laws.{part_small, padding_passes, refuses, decides}
use Rattle.hull.proofs.rule8.numbers_right.Goals as goal

pub returns-then-not-numbers_small : goal.returns-then-not-numbers_small
returns-then-not-numbers_small c =
    let limited = c.before.before in
    refuses _ _ _ _ (ap not c.if-not-numbers_small.true) (rw limited.coordinate_limit-limit.ensures at c.numbers_small.ensures)
    (λ p. part_small limited.args.hull.now.size _ _ _ p.smalls (omega arith))

pub returns-then-not-padding_small : goal.returns-then-not-padding_small
returns-then-not-padding_small c = refuses _ _ _ _ (ap not c.if-not-padding_small.true) c.padding_small.ensures (padding_passes _ _ _)

pub returns-then-not-vertices_in_box : goal.returns-then-not-vertices_in_box
returns-then-not-vertices_in_box c = refuses _ _ _ _ (ap not c.if-not-vertices_in_box.true) c.vertices_in_box.ensures (λ p. p.boxed)

pub returns-then-not-planes_right : goal.returns-then-not-planes_right
returns-then-not-planes_right c = refuses _ _ _ _ (ap not c.if-not-planes_right.true) c.planes_right.ensures (λ p. p.planed)

pub returns : goal.returns
returns c =
    let d = c.before in
    let b = d.before.before in
    let w = b.before.before in
    let a = w.before.before in
    decides _ _ _ a.requires.0 _
    (sym (rw a.coordinate_limit-limit.ensures at a.numbers_small.ensures) ∙ a.if-not-numbers_small.false)
    (sym w.padding_small.ensures ∙ w.if-not-padding_small.false)
    (sym b.vertices_in_box.ensures ∙ b.if-not-vertices_in_box.false)
    (sym d.planes_right.ensures ∙ d.if-not-planes_right.false)
    c.edges_long.ensures

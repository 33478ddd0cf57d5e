-- The loop's invariant: `best` is the best of the first i vertices, by the definition.
use Rattle.std.proofs.Common.{◌≡◌, ap, ◌∙◌, arith}
use Rattle.vector.specs.declared.shape.Farthest.{Farthest}
use Rattle.vector.specs.Shape.{farthest_of, support_vertex_of}
use Rattle.vector.proofs.Farthest.{first_turn_lem, turn}
use Rattle.vector.proofs.shape.find_hull_support_vertex.Goals as goal

pub loop-i-init : goal.loop-i-init
loop-i-init c =
    let a = c.args in
    first_turn_lem a.xs.now a.ys.now a.zs.now a.d c.dot.result c.dot.ensures

pub loop-i-preserved : goal.loop-i-preserved
loop-i-preserved c =
    let a = c.args in
    let l = c.loop-i in
    turn a.xs.now a.ys.now a.zs.now a.d l.i l.best c.farther-best.result c.dot-in-loop-i.result
    l.invariant c.dot-in-loop-i.ensures c.farther-best.ensures

pub returns : goal.returns
unfolding support_vertex_of
returns c =
    let a = c.args in
    let l = c.loop-i in
    let all : l.i ≡ a.count = omega (arith, l.auto.i-end, c.requires.some, c.loop-i-test.false) in
    ap (λ (f : Farthest). f.vertex) (l.invariant ∙ ap (farthest_of a.xs.now a.ys.now a.zs.now a.d) all)

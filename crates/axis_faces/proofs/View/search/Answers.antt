-- The loop keeps the lead after the faces so far, and goes on only where that has not stopped the search.
use mathlib.Core.Path.{◌≡◌, ap, ◌∙◌}
use mathlib.Core.Bool.{true, false}
use Prim.Native.Nat.{◌+◌, ◌<◌}
use native.Mathlib.Omega.{arith}
use Rattle.axis_best.specs.declared.Lead.{Lead}
use Rattle.axis_faces.proofs.Facing.{no_face, one_face, stopped_face, all_faces}
use Rattle.axis_faces.proofs.View.search.Goals as goal

pub loop-f-init : goal.loop-f-init
loop-f-init c = (c.none-lead.ensures ∙ no_face _ _ _ _ _ _ _, ap (λ (x : Lead). x.apart) c.none-lead.ensures)

pub returns-then-lead : goal.returns-then-lead
returns-then-lead c =
    let v = c.args.self.now in
    let h = c.args.hull.now in
    let o = c.args.other.now in
    let l = c.loop-f in
    let more : l.f < h.size.faces = c.loop-f-test.true in
    let next = one_face v.side v.turn v.position h.size h.numbers.now o.size o.numbers.now
    l.f l.lead _ _ l.invariant.0 l.invariant.1 c.face_at-face.ensures.0 c.taken-lead.ensures in
    let stopped : c.taken-lead.result.apart ≡ true = c.if-lead.true in
    stopped_face _ _ _ _ _ _ _ (l.f + 1) _ (omega (arith, more)) next stopped

pub loop-f-preserved : goal.loop-f-preserved
loop-f-preserved c =
    let v = c.args.self.now in
    let h = c.args.hull.now in
    let o = c.args.other.now in
    let l = c.loop-f in
    let next = one_face v.side v.turn v.position h.size h.numbers.now o.size o.numbers.now
    l.f l.lead _ _ l.invariant.0 l.invariant.1 c.face_at-face.ensures.0 c.taken-lead.ensures in
    let unstopped : c.taken-lead.result.apart ≡ false = c.if-lead.false in
    (next, unstopped)

pub returns : goal.returns
returns c =
    let l = c.loop-f in
    all_faces _ _ _ _ _ _ _ l.f _ (omega (arith, l.auto.f-end, c.loop-f-test.false)) l.invariant.0

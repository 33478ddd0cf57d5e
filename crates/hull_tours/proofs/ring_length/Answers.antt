-- The walk is under way: n steps are done, all on face f, and it is not back at its start.
use Rattle.std.proofs.Common.{◌∙◌, arith}
use Rattle.hull_links.proofs.Orbits.{sets_out, goes_on, arrives}
use Rattle.hull_tours.specs.inner.Found.{OnFace}
use Rattle.hull_tours.proofs.Lengths.{is_length, on_face}
use Rattle.hull_tours.proofs.ring_length.Goals as goal
use Rattle.hull_tours.proofs.ring_length.Goals.{Else-ahead-h}

pub loop-n-init : goal.loop-n-init
loop-n-init c = (c.requires.1, sets_out _ _ _)

-- the half-edge at hand is on the face, and its next is in range
here : (c : Else-ahead-h) → OnFace c.args.hull.now.size c.args.hull.now.links.now c.args.f c.loop-n.e
here c =
    on_face _ _ _ _ c.loop-n.invariant.0 _ _ c.face_of.ensures (c.if-face_of-face.false ∙ c.from-face.ensures) c.next_of-ahead.ensures c.if-ahead-h.false

pub returns-then-ahead-start : goal.returns-then-ahead-start
returns-then-ahead-start c = (
  is_length _ _ _ _ _ (omega arith) (arrives _ _ _ _ _ c.loop-n.invariant.1 _ (here (goal.at.returns-then-ahead-start c).Else-ahead-h) c.next_of-ahead.ensures
      c.if-ahead-start.true),
  omega arith,
)

pub loop-n-preserved : goal.loop-n-preserved
loop-n-preserved c = (
  c.if-ahead-h.false,
  goes_on _ _ _ _ _ c.loop-n.invariant.1 _ (here (goal.at.loop-n-preserved c).Else-ahead-h) c.next_of-ahead.ensures
      c.if-ahead-start.false,
)

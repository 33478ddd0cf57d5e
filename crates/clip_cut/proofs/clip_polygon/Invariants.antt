-- The loop keeps `Cutting`: what was put out and what is still to come make the whole cut.
use Rattle.clip_cut.proofs.Cutting.{Cutting}
use Rattle.clip_cut.proofs.clip_polygon.Given as goal

abbrev pub invariant-loop-i : goal.invariant-loop-i
invariant-loop-i l =
    Cutting l.initial.corners.numbers l.initial.corners.tags l.p l.n l.plane l.edge l.reference l.q l.corners.numbers l.corners.tags l.v1 l.d1 l.k l.i

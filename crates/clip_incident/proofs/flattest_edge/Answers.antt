-- The loop keeps `Fanning`: the flattest so far and the half-edges that are left make the flattest of all.
use mathlib.Core.Path.{refl}
use Rattle.clip_incident.proofs.Fans.{fan_begins, fan_goes, fan_shorter, fan_ends}
use Rattle.clip_incident.proofs.flattest_edge.Goals as goal

pub loop-e-init : goal.loop-e-init
loop-e-init c = fan_begins _ _ _ c.requires.0 _ _ c.requires.1 _ c.vertex_edge-start.ensures _ _

pub returns-then-e-start : goal.returns-then-e-start
returns-then-e-start c = fan_ends _ _ _ c.requires.0 _ _ c.requires.1 _ c.vertex_edge-start.ensures _ _ _ _ _ _ _ _ c.loop-e.invariant
    c.projection.ensures c.flatter-best.ensures c.twin_of-twin.ensures c.next_of-e.ensures
    c.if-e-start.true c.vertex_at-origin.ensures refl

pub loop-e-smaller : goal.loop-e-smaller
loop-e-smaller c = fan_shorter _ _ _ c.requires.0 _ _ c.requires.1 _ c.vertex_edge-start.ensures _ _ _ _ _ _ _ _ c.loop-e.invariant
    c.projection.ensures c.flatter-best.ensures c.twin_of-twin.ensures c.next_of-e.ensures c.if-e-start.false

pub loop-e-preserved : goal.loop-e-preserved
loop-e-preserved c = fan_goes _ _ _ c.requires.0 _ _ c.requires.1 _ c.vertex_edge-start.ensures _ _ _ _ _ _ _ _ c.loop-e.invariant
    c.projection.ensures c.flatter-best.ensures c.twin_of-twin.ensures c.next_of-e.ensures c.if-e-start.false

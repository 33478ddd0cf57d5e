-- The loop's invariant: `least` is the least of the first i separations, by the definition.
use mathlib.Core.Path.{sym, ◌∙◌}
use native.Mathlib.Omega.{arith}
use Rattle.manifold.specs.Records.{past_vertex}
use Rattle.clip_corners.proofs.Reading.{length_in, corner_in_lem}
use Rattle.reduce_scores.specs.Images.{largest, least_separation_of}
use Rattle.reduce_scores.proofs.Over.{start_over, turn_over, end_over}
use Rattle.reduce_scores.proofs.images.least_separation.Goals as goal
use Rattle.reduce_scores.proofs.images.least_separation.Goals.{Start}
use Rattle.reduce_scores.proofs.images.least_separation.Invariants.{least_turn}

pub loop-i-init : goal.loop-i-init
loop-i-init c = start_over least_turn largest _

pub loop-i-preserved : goal.loop-i-preserved
loop-i-preserved c =
    turn_over least_turn largest _ _ _ _ _ c.loop-i.invariant
    (c.corner_at.ensures ∙ sym (corner_in_lem _ _ _ _ c.loop-i.i past_vertex c.loop-i-test.true)) c.min_float-least.ensures

pub returns : goal.returns
unfolding least_separation_of
returns c = end_over least_turn largest _ _ _ c.args.n (length_in _ _ _ _) (omega arith) (omega arith) c.loop-i.invariant

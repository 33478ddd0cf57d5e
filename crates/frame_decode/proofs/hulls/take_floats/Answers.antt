-- Each turn writes one float behind those that stand.
use Prim.Native.Nat.{◌+◌, ◌*◌}
use Rattle.frame_decode.specs.Fields.{float_at}
use Rattle.lists.proofs.Tables.{begun, turned}
use Rattle.frame_decode.proofs.hulls.take_floats.Goals as goal

pub loop-i-init : goal.loop-i-init
loop-i-init c = begun _ _ _

pub loop-i-preserved : goal.loop-i-preserved
loop-i-preserved c = turned (λ j. float_at c.args.frame.now (c.args.at + 4 * j)) c.loop-i.i c.loop-i.invariant c.float_at.ensures

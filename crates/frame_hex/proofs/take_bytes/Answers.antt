-- Each turn writes one byte behind those that stand.
use Rattle.lists.proofs.Tables.{begun, turned_front}
use Rattle.frame_hex.specs.Hex.{byte_of}
use Rattle.frame_hex.proofs.take_bytes.Goals as goal

pub loop-i-init : goal.loop-i-init
loop-i-init c = begun _ _ _

pub loop-i-preserved : goal.loop-i-preserved
loop-i-preserved c = turned_front (byte_of c.args.line.now) c.loop-i.i c.loop-i.invariant c.byte_of.ensures

-- Each turn writes the two characters of one byte behind those that stand.
use borrow.Author.Rules.{rules}
use Rattle.frame_hex.proofs.Bytes.{hex_begun, hex_turned}
use Rattle.frame_hex.proofs.put_hex.Goals as goal

pub loop-i-init : goal.loop-i-init
loop-i-init c = hex_begun c.args.bytes.now _

pub loop-i-preserved : goal.loop-i-preserved
loop-i-preserved c = hex_turned c.args.bytes.now c.loop-i.i (search rules) c.loop-i.invariant
    c.digit_of.ensures c.digit_of-in-loop-i.ensures
    c.write.ensures c.write-in-loop-i.ensures

-- Each turn writes the two characters of one byte behind those that stand.
use lib.ListN.{take}
use Rattle.lists.specs.Written.{Wrote}
use Rattle.frame_hex.specs.Hex.{hex_of}
use Rattle.frame_hex.proofs.put_hex.Given as goal

abbrev pub invariant-loop-i : goal.invariant-loop-i
invariant-loop-i l = Wrote l.initial.line 0 (hex_of (take l.i l.bytes)) l.line

-- Each turn writes one byte behind those that stand.
use Rattle.lists.specs.Written.{Wrote, table}
use Rattle.frame_hex.specs.Hex.{byte_of}
use Rattle.frame_hex.proofs.take_bytes.Given as goal

abbrev pub invariant-loop-i : goal.invariant-loop-i
invariant-loop-i l = Wrote l.initial.bytes 0 (table (byte_of l.line) l.i) l.bytes

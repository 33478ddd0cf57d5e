-- All characters so far are digits, or one was none.
use mathlib.Core.Path.{◌≡◌}
use Rattle.hull_links.specs.Tests.{all}
use Rattle.frame_hex.specs.Hex.{hex_at}
use Rattle.frame_hex.proofs.hex_line.Given as goal

abbrev pub invariant-loop-c : goal.invariant-loop-c
invariant-loop-c l = l.digits ≡ all (hex_at l.line) l.c-index

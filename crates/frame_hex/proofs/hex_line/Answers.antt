-- All characters so far are digits, or one was none.
use borrow.Author.Rules.{rules}
use Rattle.hull_links.proofs.Tests.{all_none, all_and}
use Rattle.frame_hex.specs.Hex.{hex_at}
use Rattle.frame_hex.proofs.Digits.{line_digits, line_bad}
use Rattle.frame_hex.proofs.hex_line.Goals as goal
use mathlib.Core.Path.{sym}

pub loop-c-init : goal.loop-c-init
loop-c-init c = sym (all_none _)

pub loop-c-preserved : goal.loop-c-preserved
unfolding hex_at
loop-c-preserved c = all_and (hex_at c.args.line.now) c.loop-c.c-index _ _ c.loop-c.invariant c.hex_digit-digits.ensures

pub returns-then-digits : goal.returns-then-digits
returns-then-digits c = line_digits c.args.line.now c.loop-c.invariant (search rules) (search rules) c.if-digits.true

pub returns-else-digits : goal.returns-else-digits
returns-else-digits c = line_bad c.args.line.now c.loop-c.invariant (search rules) (search rules) c.if-digits.false

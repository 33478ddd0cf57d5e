-- The answer, and its line end.
use native.Mathlib.Omega.{arith}
use Rattle.stream.proofs.Tells.{answers_end}
use Rattle.stream.proofs.tell_line.Goals as goal

pub returns : goal.returns
returns c = (
  omega arith,
  λ xs h. answers_end (c.answer_ended-n.ensures.1 xs h) (omega arith)
      c.end_line.ensures.0 c.end_line.ensures.1,
)

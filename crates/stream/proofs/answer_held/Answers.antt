-- ff24, or the answer to what is kept.
use native.Mathlib.Omega.{arith}
use Rattle.frame_hex.specs.Hex.{hex_of}
use Rattle.stream.proofs.Tells.{answer_most, answers_long, answers_kept}
use Rattle.stream.proofs.answer_held.Goals as goal

pub returns-in-Some : goal.returns-in-Some
returns-in-Some c = (answer_most _ c.line_answer.ensures, λ xs h. answers_kept c.in-Some.is h c.line_answer.ensures)

pub returns-in-None : goal.returns-in-None
unfolding hex_of
returns-in-None c = (omega (arith, c.put_long.ensures.count), λ xs h. answers_long c.in-None.is h c.put_long.ensures)

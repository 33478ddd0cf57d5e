-- Nothing, or the answer to what is held and its line end.
use native.Mathlib.Omega.{arith}
use mathlib.Core.Path.{sym, ◌∙◌}
use Rattle.stream.proofs.Tells.{last_nothing, last_held, answers_end}
use Rattle.stream.proofs.tell_last.Goals as goal

pub returns-then-is_nothing : goal.returns-then-is_nothing
returns-then-is_nothing c = (omega arith, λ xs h. last_nothing (sym c.is_nothing.ensures ∙ c.if-is_nothing.true) h)

pub returns : goal.returns
returns c = (
  omega arith,
  λ xs h. last_held (sym c.is_nothing.ensures
      ∙ c.if-is_nothing.false)
      c.requires.0 h
      (answers_end (c.answer_held-n.ensures.1 xs h) (omega arith) c.end_line.ensures.0
      c.end_line.ensures.1),
)

-- The characters as they were read where nothing was held, or what was held and they together.
use mathlib.Core.Path.{sym, ◌∙◌}
use Rattle.stream.proofs.Tells.{answer_most, answers_whole}
use Rattle.stream.proofs.answer_ended.Goals as goal

pub returns-then-is_nothing : goal.returns-then-is_nothing
returns-then-is_nothing c = (
  answer_most _ c.line_answer.ensures,
  λ xs h. answers_whole _ (sym c.is_nothing.ensures ∙ c.if-is_nothing.true) h
      c.line_answer.ensures,
)

pub returns : goal.returns
returns c = (
  c.answer_held.ensures.0,
  λ xs h. c.answer_held.ensures.1 _ (c.hold-held.ensures.1 xs h),
)

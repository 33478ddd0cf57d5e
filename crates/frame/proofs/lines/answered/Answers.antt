-- Too long, no hexadecimal, or a frame.
use mathlib.Core.Path.{refl, sym, ◌∙◌}
use Rattle.frame.proofs.Puts.{answers_same, line_over, line_no_hex, line_framed}
use Rattle.frame.proofs.lines.answered.Goals as goal

pub returns-then-line-gt-MOST_CHARACTERS : goal.returns-then-line-gt-MOST_CHARACTERS
returns-then-line-gt-MOST_CHARACTERS c = (sym (line_over _ c.if-line-gt-MOST_CHARACTERS.true), refl)

pub returns-then-not-hex_line : goal.returns-then-not-hex_line
returns-then-not-hex_line c = (
  sym (line_no_hex _ c.if-line-gt-MOST_CHARACTERS.false
      (sym c.hex_line.ensures ∙ c.if-not-hex_line.true)),
  refl,
)

pub returns-then-line-le-SHORT : goal.returns-then-line-le-SHORT
returns-then-line-le-SHORT c = answers_same c.answer_in.ensures
    (line_framed _ c.if-line-gt-MOST_CHARACTERS.false
    (sym c.hex_line.ensures
    ∙ c.if-not-hex_line.false))

pub returns : goal.returns
returns c = answers_same c.answer_in-2.ensures
    (line_framed _ c.if-line-gt-MOST_CHARACTERS.false
    (sym c.hex_line.ensures
    ∙ c.if-not-hex_line.false))

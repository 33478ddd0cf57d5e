-- The room's first bytes are the line's.
use mathlib.Core.Path.{ap}
use Rattle.frame.specs.Frames.{frame_answer}
use Rattle.frame.proofs.Puts.{answers_same, bytes_first, bytes_long}
use Rattle.frame.proofs.lines.answer_in.Goals as goal

pub returns : goal.returns
returns c = answers_same c.frame_answer.ensures
    (ap frame_answer (bytes_first c.args.line.now c.take_bytes.ensures c.requires.1))

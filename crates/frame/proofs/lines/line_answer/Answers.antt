-- The characters of the answer's bytes.
use native.Mathlib.Omega.{arith}
use borrow.Author.Rules.{rules}
use Rattle.frame.proofs.Puts.{answer_long, told}
use Rattle.frame.proofs.Lengths.{answered_length, line_answers}
use Rattle.frame.proofs.lines.line_answer.Goals as goal

pub returns : goal.returns
returns c = line_answers c.args.line.now (told _ c.answered-tried.result c.answered-tried.ensures c.or_fault-n.ensures) c.put_hex.ensures c.requires

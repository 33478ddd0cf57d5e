-- `retired_mark`: the ends of the range pick the definition's case.
use native.Mathlib.Omega.{arith}
use Rattle.collide_outcome.proofs.Cases.{marked, unmarked_below, unmarked_above}
use Rattle.collide_outcome.proofs.retired_mark.Goals as goal

pub returns-in-6-to-8 : goal.returns-in-6-to-8
returns-in-6-to-8 c = marked _ (omega arith) (omega arith)

pub returns-in_default : goal.returns-in_default
returns-in_default c = unmarked_below _ (omega arith)

pub returns-in_default-2 : goal.returns-in_default-2
returns-in_default-2 c = unmarked_above _ (omega arith)

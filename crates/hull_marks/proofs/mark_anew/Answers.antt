-- The first word has the marks below 64, the second those from 64 on.
use native.Mathlib.Omega.{arith}
use Rattle.hull_marks.proofs.Marks.{in_word}
use Rattle.hull_marks.proofs.mark_anew.Goals as goal

pub returns-then-i-lt64 : goal.returns-then-i-lt64
returns-then-i-lt64 c = let low = c.if-i-lt64.true in
    in_word _ _ 0 _ (omega arith) (omega arith)

pub overflow_shr-old-2 : goal.overflow_shr-old-2
overflow_shr-old-2 c = omega (arith, c.requires)

pub overflow_shl-marks-2 : goal.overflow_shl-marks-2
overflow_shl-marks-2 c = omega (arith, c.requires)

pub returns : goal.returns
returns c = let high = c.if-i-lt64.false in
    let below = c.requires in
    in_word _ _ 1 _ (omega arith) (omega arith)

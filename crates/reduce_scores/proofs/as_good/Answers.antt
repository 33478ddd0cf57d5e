-- `as_good`: the test picks the definition's case.
use mathlib.Core.Path.{◌≡◌}
use mathlib.Core.Bool.{true, false}
use lib.Ieee.{le}
use Rattle.vector.specs.Rounded.{◌⊗◌}
use Rattle.reduce_scores.specs.Scores.{bias, as_good_of}
use Rattle.reduce_scores.proofs.as_good.Goals as goal

pub returns-then-score-best : goal.returns-then-score-best
unfolding as_good_of
returns-then-score-best c =
    let a = c.args in
    let above : le a.best.score (bias ⊗ a.score) ≡ true = c.if-score-best.true in
    simp above

pub returns : goal.returns
unfolding as_good_of
returns c =
    let a = c.args in
    let below : le a.best.score (bias ⊗ a.score) ≡ false = c.if-score-best.false in
    simp below

-- `better`: the test picks the definition's case.
use mathlib.Core.Path.{◌≡◌}
use mathlib.Core.Bool.{true, false}
use lib.Ieee.{lt}
use Rattle.vector.specs.Rounded.{◌⊗◌}
use Rattle.reduce_scores.specs.Scores.{bias, better_pick_of}
use Rattle.reduce_scores.proofs.better.Goals as goal

pub returns-then-score-best : goal.returns-then-score-best
unfolding better_pick_of
returns-then-score-best c =
    let a = c.args in
    let above : lt a.best.score (bias ⊗ a.score) ≡ true = c.if-score-best.true in
    simp above

pub returns : goal.returns
unfolding better_pick_of
returns c =
    let a = c.args in
    let below : lt a.best.score (bias ⊗ a.score) ≡ false = c.if-score-best.false in
    simp below

-- `first_turn`: the test picks the definition's case, and each call answers its own.
use mathlib.Core.Path.{◌≡◌}
use mathlib.Core.Bool.{true, false}
use lib.Ieee.{lt}
use Rattle.reduce_scores.specs.Scores.{first_turn}
use Rattle.reduce.proofs.places.first_turn.Goals as goal

pub returns-then-v-far : goal.returns-then-v-far
unfolding first_turn
returns-then-v-far c =
    let a = c.args in
    let beyond : lt a.far a.v.separation ≡ true = c.if-v-far.true in
    simp beyond

pub returns : goal.returns
unfolding first_turn
returns c =
    let test = c.before.before in
    let a = test.args in
    let within : lt a.far a.v.separation ≡ false = test.if-v-far.false in
    simp (within, c.better.ensures, c.reach.ensures)

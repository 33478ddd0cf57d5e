-- `touching`: the tests pick the definition's case.
use mathlib.Core.Path.{◌≡◌}
use mathlib.Core.Bool.{true, false}
use lib.Dec.{ltb}
use lib.Ieee.{le}
use borrow.Author.Tests.{lt-ltb, le-ltb}
use Rattle.reduce_scores.specs.Images.{touching_of}
use Rattle.reduce_scores.proofs.images.touching.Goals as goal

pub returns-then-count-lt3 : goal.returns-then-count-lt3
unfolding touching_of
returns-then-count-lt3 c = let few : ltb c.args.count 3 ≡ true = lt-ltb _ 3 c.if-count-lt3.true in simp few

pub returns-then-least-far : goal.returns-then-least-far
unfolding touching_of
returns-then-least-far c =
    let a = c.args in
    let enough : ltb a.count 3 ≡ false = le-ltb _ 3 c.if-count-lt3.false in
    let beyond : le a.far a.least ≡ true = c.if-least-far.true in
    simp (enough, beyond)

pub returns : goal.returns
unfolding touching_of
returns c =
    let a = c.args in
    let enough : ltb a.count 3 ≡ false = le-ltb _ 3 c.if-count-lt3.false in
    let within : le a.far a.least ≡ false = c.if-least-far.false in
    simp (enough, within)

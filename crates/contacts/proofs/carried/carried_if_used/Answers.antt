-- `carried_if_used`: the test picks the case of the definition.
use mathlib.Core.Path.{◌≡◌}
use mathlib.Core.Bool.{true, false}
use lib.Dec.{ltb}
use borrow.Author.Tests.{lt-ltb, le-ltb}
use Rattle.contacts.specs.inner.Carried.{carried_if_used}
use Rattle.contacts.proofs.carried.carried_if_used.Goals as goal

pub returns-then-i-count : goal.returns-then-i-count
unfolding carried_if_used
returns-then-i-count c = let a = c.args in
    let below : ltb a.i a.count ≡ true = lt-ltb a.i a.count c.if-i-count.true in
    simp (below, c.carried_point.ensures)

pub returns : goal.returns
unfolding carried_if_used
returns c = let a = c.args in
    let above : ltb a.i a.count ≡ false = le-ltb a.i a.count c.if-i-count.false in
    simp above

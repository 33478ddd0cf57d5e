-- `standing1`: the test picks the definition's case.
use mathlib.Core.Path.{◌≡◌}
use mathlib.Core.Bool.{true, false}
use lib.Dec.{eqb}
use borrow.Author.Tests.{eq-eqb, ne_eqb}
use Rattle.reduce.specs.Reduce.{standing}
use Rattle.reduce.proofs.places.standing1.Goals as goal

pub returns-then-i-j1 : goal.returns-then-i-j1
unfolding standing
returns-then-i-j1 c = let taken : eqb c.args.i c.args.j1 ≡ true = eq-eqb _ _ c.if-i-j1.true in simp taken

pub returns : goal.returns
unfolding standing
returns c = let other : eqb c.args.i c.args.j1 ≡ false = ne_eqb _ _ c.if-i-j1.false in simp other

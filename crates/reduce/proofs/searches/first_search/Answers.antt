-- The best so far is the best of the first i that are left.
use mathlib.Core.Path.{refl}
use native.Mathlib.Omega.{arith}
use Rattle.reduce.specs.Reduce.{first_best}
use Rattle.reduce.proofs.Answers.{search_begins, search_turn, search_end}
use Rattle.reduce.proofs.searches.first_search.Goals as goal

pub loop-i-init : goal.loop-i-init
loop-i-init c = search_begins _ _ _ _

pub loop-i-preserved : goal.loop-i-preserved
loop-i-preserved c =
    search_turn _ _ _ _ _ _ _ c.loop-i.i _ c.loop-i.invariant (omega arith) refl
    (c.at.ensures.image c.requires c.loop-i-test.true) c.first_turn-best.ensures

pub returns : goal.returns
unfolding first_best
returns c = search_end _ _ _ _ _ _ c.loop-i.invariant (omega arith) (omega arith)

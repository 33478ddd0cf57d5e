-- The best so far is the best of the first i that are left.
use mathlib.Core.Path.{ap, ◌∙◌}
use mathlib.Core.List.{[], ◌∷◌}
use native.Mathlib.Omega.{arith}
use Rattle.reduce_scores.specs.Scores.{better_pick_of}
use Rattle.reduce.specs.Reduce.{second_best}
use Rattle.reduce.proofs.Standing.{place_low}
use Rattle.reduce.proofs.Answers.{search_begins, search_turn, search_end}
use Rattle.reduce.proofs.searches.second_search.Goals as goal

pub loop-i-init : goal.loop-i-init
loop-i-init c = search_begins _ _ _ _

pub at-v-requires : goal.at-v-requires
at-v-requires c =
    let low = place_low _ (c.args.j1 ∷ []) _ _ c.loop-i-test.true c.standing1.ensures in
    (c.requires.0.low, omega (arith, c.requires.0.few, low))

pub loop-i-preserved : goal.loop-i-preserved
loop-i-preserved c =
    let low = place_low _ (c.args.j1 ∷ []) _ _ c.loop-i-test.true c.standing1.ensures in
    search_turn _ _ _ _ _ _ _ _ _ c.loop-i.invariant c.loop-i-test.true c.standing1.ensures (c.at-v.ensures.image c.requires.0 low)
    (c.better-best.ensures ∙ ap (better_pick_of c.loop-i.best c.loop-i.i) c.spread.ensures)

pub returns : goal.returns
unfolding second_best
returns c = search_end _ _ _ _ _ _ c.loop-i.invariant (omega arith) (omega arith)

-- The best so far is the best of the first i that are left.
use mathlib.Core.Path.{ap, ◌∙◌}
use mathlib.Core.List.{[], ◌∷◌}
use native.Mathlib.Omega.{arith}
use Rattle.vector.specs.Scalar.{abs_of}
use Rattle.reduce_scores.specs.Scores.{as_good_of}
use Rattle.reduce.proofs.Standing.{place_low}
use Rattle.reduce.proofs.Answers.{search_begins, search_turn, search_end, third_end}
use Rattle.reduce.proofs.searches.third_search.Goals as goal

pub loop-i-init : goal.loop-i-init
loop-i-init c = search_begins _ _ _ _

pub at-v-requires : goal.at-v-requires
at-v-requires c =
    let low = place_low _ (c.args.j1 ∷ c.args.j2 ∷ []) _ _ c.loop-i-test.true c.standing2.ensures in
    (c.requires.0.low, omega (arith, c.requires.0.few, low))

pub loop-i-preserved : goal.loop-i-preserved
loop-i-preserved c =
    let low = place_low _ (c.args.j1 ∷ c.args.j2 ∷ []) _ _ c.loop-i-test.true c.standing2.ensures in
    search_turn _ _ _ _ _ _ _ _ _ c.loop-i.invariant c.loop-i-test.true c.standing2.ensures (c.at-v.ensures.image c.requires.0 low)
    (c.as_good-best.ensures ∙ ap (as_good_of c.loop-i.best c.loop-i.i) (c.abs_float.ensures ∙ ap abs_of c.signed_area.ensures))

pub returns : goal.returns
returns c = third_end _ _ _ _ _ _ _ c.sub-ba.ensures (search_end _ _ _ _ _ _ c.loop-i.invariant (omega arith) (omega arith))

-- The best so far is the best of the first i that are left.
use mathlib.Core.List.{[], ◌∷◌}
use Rattle.reduce.specs.Reduce.{tolerance}
use Rattle.reduce.proofs.Answers.{Searching, nothing, fourth_turn}
use Rattle.reduce.proofs.searches.fourth_search.Given as goal

abbrev pub invariant-loop-i : goal.invariant-loop-i
invariant-loop-i l = Searching (fourth_turn l.images.normal l.t) (nothing (tolerance l.far)) l.images (l.j1 ∷ l.j2 ∷ l.j3 ∷ []) l.best l.i

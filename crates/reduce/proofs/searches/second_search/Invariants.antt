-- The best so far is the best of the first i that are left.
use mathlib.Core.List.{[], ◌∷◌}
use Rattle.vector.specs.Rounded.{float}
use Rattle.reduce.proofs.Answers.{Searching, nothing, second_turn}
use Rattle.reduce.proofs.searches.second_search.Given as goal

abbrev pub invariant-loop-i : goal.invariant-loop-i
invariant-loop-i l = Searching (second_turn l.images.normal l.a) (nothing (float 0)) l.images (l.j1 ∷ []) l.best l.i

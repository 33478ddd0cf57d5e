-- The best so far is the best of the first i that are left.
use mathlib.Core.List.{[]}
use lib.Ieee.{neg}
use Rattle.reduce_scores.specs.Images.{largest}
use Rattle.reduce_scores.specs.Scores.{first_turn}
use Rattle.reduce.proofs.Answers.{Searching, nothing}
use Rattle.reduce.proofs.searches.first_search.Given as goal

abbrev pub invariant-loop-i : goal.invariant-loop-i
invariant-loop-i l = Searching (first_turn l.far l.direction) (nothing (neg largest)) l.images [] l.best l.i

-- The nexts of the half-edges before the one at hand are marked and differ.
use mathlib.Core.Path.{◌≡◌}
use mathlib.Core.Bool.{true}
use Rattle.hull_links.specs.Tests.{all}
use Rattle.hull_links.specs.Walks.{firsts}
use Rattle.hull_links.specs.Links.{next}
use Rattle.hull_links.specs.Rules.{new_next}
use Rattle.hull_marks.specs.inner.Marks.{Marks}
use Rattle.hull_rules.proofs.tests.nexts_right.Given as goal

abbrev pub invariant-loop-i : goal.invariant-loop-i
invariant-loop-i l = (all (new_next l.hull.size l.hull.links.now) l.i ≡ true) × Marks l.marks (firsts (next l.hull.size l.hull.links.now) l.i)

-- A hull, or none.
use borrow.Author.Tests.{lt-ltb, le-ltb}
use Rattle.pools_pairs.specs.inner.Judged.{hull_rule}
use Rattle.pools_pairs.proofs.rule_of.Goals as goal

pub returns-then-h-n : goal.returns-then-h-n
unfolding hull_rule
returns-then-h-n c = simp (lt-ltb _ _ c.if-h-n.true)

pub returns-else-h-n : goal.returns-else-h-n
unfolding hull_rule
returns-else-h-n c = simp (le-ltb _ _ c.if-h-n.false)

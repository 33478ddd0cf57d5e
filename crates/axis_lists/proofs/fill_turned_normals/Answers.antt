-- `fill_turned_normals`: what the closure gives is the definition's own expression.
use Rattle.axis_lists.proofs.Fills.{told}
use borrow.Author.Rules.{rules}
use Rattle.axis_lists.proofs.fill_turned_normals.Goals as goal

pub returns : goal.returns
returns c = told _ c.fill.ensures (λ k x h. search rules)

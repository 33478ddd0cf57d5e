-- `fill_row`: what the closure gives is the definition's own expression.
use Rattle.axis_lists.proofs.Fills.{told}
use Rattle.axis_lists.specs.inner.Lists.{vector_in}
use Rattle.axis_edges.specs.Edges.{dot_right}
use borrow.Author.Rules.{rules}
use Rattle.axis_lists.proofs.fill_row.Goals as goal

pub returns : goal.returns
unfolding vector_in dot_right
returns c = told _ c.fill.ensures (λ k x h. search rules)

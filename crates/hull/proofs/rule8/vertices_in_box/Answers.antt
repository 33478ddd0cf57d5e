-- `vertices_in_box`: what the closure answers is the definition's own expression.
use borrow.Author.Rules.{rules}
use Rattle.hull.specs.Rule8.{vertex_in_box}
use Rattle.hull.proofs.rule8.vertices_in_box.Goals as goal

pub returns : goal.returns
unfolding vertex_in_box
returns c = c.every.ensures _ (λ k b h q. search rules)

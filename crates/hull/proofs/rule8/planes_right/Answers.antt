-- `planes_right`: what the closure answers is the definition's own expression.
use borrow.Author.Rules.{rules}
use Rattle.hull.specs.Rule8.{plane_right_at}
use Rattle.hull.proofs.rule8.planes_right.Goals as goal

pub returns : goal.returns
unfolding plane_right_at
returns c = c.every.ensures _ (λ k b h q. search rules)

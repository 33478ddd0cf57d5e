-- Outside, or judged on its own lists.
use mathlib.Core.Path.{sym, ◌∙◌}
use Rattle.pools.proofs.Laws.{rule_outside, rule_judged}
use Rattle.pools.proofs.Pools.rule_at.Goals as goal

pub returns-then-not-inside : goal.returns-then-not-inside
returns-then-not-inside c = rule_outside _ _ _ (sym c.inside.ensures ∙ c.if-not-inside.true)

pub returns : goal.returns
returns c = let hull = c.hull_at.ensures in
    rule_judged _ _ _ (sym c.inside.ensures ∙ c.if-not-inside.false) hull.0 hull.1 hull.2 c.first_broken_rule.ensures

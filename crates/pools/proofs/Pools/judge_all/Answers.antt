-- Each turn writes one hull's rule behind those that stand.
use mathlib.Core.Path.{ap, ◌∙◌}
use Rattle.lists.proofs.Tables.{begun, turned_front}
use Rattle.pools.specs.Pools.{rule_at, rule_of}
use Rattle.pools.proofs.Pools.judge_all.Goals as goal

pub loop-h-init : goal.loop-h-init
loop-h-init c = begun _ _ _

pub loop-h-preserved : goal.loop-h-preserved
unfolding rule_of
loop-h-preserved c = let pools = c.args.self.now in
    turned_front (rule_of pools.numbers.now pools.links.now pools.hulls.now) c.loop-h.h c.loop-h.invariant
    (c.rule_number.ensures ∙ (c.rule_at.ensures ∙ ap (rule_at pools.numbers.now pools.links.now) c.place_of.ensures.is))

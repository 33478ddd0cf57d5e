-- The half-edges are tried in turn.
use Rattle.std.proofs.Common.{rules, tests}
use Rattle.hull_links.specs.Rules.{h4, linked_at}
use Rattle.hull_rules.proofs.Ranges.{all_tested}
use Rattle.hull_rules.proofs.tests.links_right.Goals as goal

pub returns : goal.returns
unfolding h4
returns c =
    let h = c.args.hull.now in
    all_tested (linked_at h.size h.links.now) (h.size.half_edges) _ _ _ _ (cc) c.all.ensures.ran (λ x b q k. search (rules, tests))

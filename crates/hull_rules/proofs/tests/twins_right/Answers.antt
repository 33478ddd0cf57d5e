-- The pairs are tried in turn.
use Rattle.std.proofs.Common.{rules, tests, ◌/◌}
use Rattle.hull_links.specs.Rules.{h3, twins_at}
use Rattle.hull_rules.proofs.Ranges.{all_tested}
use Rattle.hull_rules.proofs.tests.twins_right.Goals as goal

pub returns : goal.returns
unfolding h3
returns c =
    let h = c.args.hull.now in
    all_tested (twins_at h.size h.links.now) (h.size.half_edges / 2) _ _ _ _ (cc) c.all.ensures.ran (λ x b q k. search (rules, tests))

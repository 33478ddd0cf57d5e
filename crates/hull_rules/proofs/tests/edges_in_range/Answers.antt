-- The half-edges are tried in turn.
use Rattle.std.proofs.Common.{rules, tests}
use Rattle.hull_links.specs.Rules.{edge_in_range}
use Rattle.hull_rules.proofs.Ranges.{all_tested}
use Rattle.hull_rules.proofs.tests.edges_in_range.Goals as goal

pub returns : goal.returns
returns c =
    let h = c.args.hull.now in
    all_tested (edge_in_range h.size h.links.now) (h.size.half_edges) _ _ _ _ (cc) c.all.ensures.ran (λ x b q k. search (rules, tests))

-- The stored edges of the vertices, the half-edges, and the stored edges of the faces are tried in turn.
use Rattle.std.proofs.Common.{sym, ◌∙◌}
use Rattle.hull_links.specs.Rules.{h2}
use Rattle.hull_links.proofs.Tests.{and_intro, and_last, and_false_left, and_false_right}
use Rattle.hull_rules.proofs.Named.{first_edges, last_edges}
use Rattle.hull_rules.proofs.tests.ranges_right.Goals as goal

pub returns-then-not-stored_in_range : goal.returns-then-not-stored_in_range
unfolding h2
returns-then-not-stored_in_range c =
    let h = c.args.hull.now in
    sym (and_false_left _ _ (and_false_left _ _ (sym (first_edges h.size h.links.now c.requires) ∙ sym c.stored_in_range.ensures
    ∙ c.if-not-stored_in_range.true)))

pub returns-then-not-edges_in_range : goal.returns-then-not-edges_in_range
unfolding h2
returns-then-not-edges_in_range c = sym (and_false_left _ _ (and_false_right _ _ (sym c.edges_in_range.ensures ∙ c.if-not-edges_in_range.true)))

pub returns : goal.returns
unfolding h2
returns c =
    let h = c.args.hull.now in
    and_last _ _ _ (and_intro _ _ (sym (first_edges h.size h.links.now c.requires) ∙ sym c.stored_in_range.ensures ∙ c.if-not-stored_in_range.false)
    (sym c.edges_in_range.ensures ∙ c.if-not-edges_in_range.false))
    (c.stored_in_range-2.ensures ∙ last_edges h.size h.links.now c.requires)

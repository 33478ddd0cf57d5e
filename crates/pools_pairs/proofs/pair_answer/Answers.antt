-- Refused by what is known of the hulls, or answered on two that are ready: there, inside the pools, and breaking no rule.
use mathlib.Core.Path.{sym, ap, ◌∙◌}
use Rattle.collide_outcome.specs.Answers.{refused_of}
use Rattle.pools_pairs.proofs.Pairs.{below, ready, breaks_none, refuses_1, refuses_2, called}
use Rattle.pools_pairs.proofs.pair_answer.Goals as goal

pub returns-then-rule_a-ne0 : goal.returns-then-rule_a-ne0
returns-then-rule_a-ne0 c = c.refused.ensures ∙ ap (λ k. refused_of k c.args.cache) c.from.ensures
    ∙ refuses_1 _ _ _ _ _ _ _ (λ z. c.if-rule_a-ne0.true (c.requires.0 ∙ z))

pub returns-then-rule_b-ne0 : goal.returns-then-rule_b-ne0
returns-then-rule_b-ne0 c = c.refused-then-rule_b-ne0.ensures ∙ ap (λ k. refused_of k c.args.cache) c.from-then-rule_b-ne0.ensures
    ∙ refuses_2 _ _ _ _ _ _ _ (sym c.requires.0 ∙ c.if-rule_a-ne0.false)
    (λ z. c.if-rule_b-ne0.true (c.requires.1 ∙ z))

pub place_of-requires : goal.place_of-requires
place_of-requires c = below _ _ _ _ (sym c.requires.0 ∙ c.if-rule_a-ne0.false)

pub place_of-requires-2 : goal.place_of-requires-2
place_of-requires-2 c = below _ _ _ _ (sym c.requires.1 ∙ c.if-rule_b-ne0.false)

pub hull_at-hull_a-requires : goal.hull_at-hull_a-requires
hull_at-hull_a-requires c =
    let is = c.place_of.ensures in (is.words, (ready _ _ _ _ _ (sym c.requires.0 ∙ c.if-rule_a-ne0.false) is.is).within)

pub hull_at-hull_b-requires : goal.hull_at-hull_b-requires
hull_at-hull_b-requires c =
    let is = c.place_of-2.ensures in (is.words, (ready _ _ _ _ _ (sym c.requires.1 ∙ c.if-rule_b-ne0.false) is.is).within)

pub collide_judged-requires : goal.collide_judged-requires
collide_judged-requires c =
    let a = c.hull_at-hull_a.ensures in
    let b = c.hull_at-hull_b.ensures in (
      breaks_none _ _ _ (ready _ _ _ _ _ (sym c.requires.0 ∙ c.if-rule_a-ne0.false) c.place_of.ensures.is) a.0 a.1 a.2,
      breaks_none _ _ _ (ready _ _ _ _ _ (sym c.requires.1 ∙ c.if-rule_b-ne0.false) c.place_of-2.ensures.is) b.0 b.1 b.2,
    )

pub returns : goal.returns
returns c =
    let a = c.hull_at-hull_a.ensures in
    let b = c.hull_at-hull_b.ensures in
    called _ _ _ _ _ (ready _ _ _ _ _ (sym c.requires.0 ∙ c.if-rule_a-ne0.false) c.place_of.ensures.is)
    (ready _ _ _ _ _ (sym c.requires.1 ∙ c.if-rule_b-ne0.false) c.place_of-2.ensures.is) a.0 a.1 a.2 b.0 b.1 b.2 c.collide_judged.ensures

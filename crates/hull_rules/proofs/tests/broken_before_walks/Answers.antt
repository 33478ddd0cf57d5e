-- The rules are tried in their order; the first that fails answers.
use mathlib.Core.Path.{sym, ◌∙◌}
use Rattle.hull_links.proofs.Tests.{passes, breaks, none_broken}
use Rattle.hull_rules.specs.inner.Named.{broken_before_walks}
use Rattle.hull_rules.proofs.tests.broken_before_walks.Goals as goal

pub returns-then-not-ranges_right : goal.returns-then-not-ranges_right
unfolding broken_before_walks
returns-then-not-ranges_right c = breaks 2 _ _ (sym c.ranges_right.ensures ∙ c.if-not-ranges_right.true)

pub returns-then-not-twins_right : goal.returns-then-not-twins_right
unfolding broken_before_walks
returns-then-not-twins_right c = let a = c.before.before in
    passes 2 3 _ _ (sym a.ranges_right.ensures ∙ a.if-not-ranges_right.false)
    (breaks 3 _ _ (sym c.twins_right.ensures ∙ c.if-not-twins_right.true))

pub links_right-requires : goal.links_right-requires
links_right-requires c = let r = c.before.before in
    (r.requires, sym r.ranges_right.ensures ∙ r.if-not-ranges_right.false)

pub returns-then-not-links_right : goal.returns-then-not-links_right
unfolding broken_before_walks
returns-then-not-links_right c = let b = c.before.before in
    let a = b.before.before in
    passes 2 4 _ _ (sym a.ranges_right.ensures ∙ a.if-not-ranges_right.false)
    (passes 3 4 _ _ (sym b.twins_right.ensures ∙ b.if-not-twins_right.false)
    (breaks 4 _ _ (sym c.links_right.ensures ∙ c.if-not-links_right.true)))

pub nexts_right-requires : goal.nexts_right-requires
nexts_right-requires c = let r = c.before.before.before.before in
    (r.requires, sym r.ranges_right.ensures ∙ r.if-not-ranges_right.false)

pub returns-then-not-nexts_right : goal.returns-then-not-nexts_right
unfolding broken_before_walks
returns-then-not-nexts_right c = let d = c.before.before in
    let b = d.before.before in
    let a = b.before.before in
    passes 2 5 _ _ (sym a.ranges_right.ensures ∙ a.if-not-ranges_right.false)
    (passes 3 5 _ _ (sym b.twins_right.ensures ∙ b.if-not-twins_right.false)
    (passes 4 5 _ _ (sym d.links_right.ensures ∙ d.if-not-links_right.false)
    (breaks 5 _ _ (sym c.nexts_right.ensures ∙ c.if-not-nexts_right.true))))

pub returns : goal.returns
unfolding broken_before_walks
returns c = let d = c.before.before in
    let b = d.before.before in
    let a = b.before.before in
    passes 2 0 _ _ (sym a.ranges_right.ensures ∙ a.if-not-ranges_right.false)
    (passes 3 0 _ _ (sym b.twins_right.ensures ∙ b.if-not-twins_right.false)
    (passes 4 0 _ _ (sym d.links_right.ensures ∙ d.if-not-links_right.false)
    (passes 5 0 _ _ (sym c.nexts_right.ensures ∙ c.if-not-nexts_right.false) (none_broken 6))))

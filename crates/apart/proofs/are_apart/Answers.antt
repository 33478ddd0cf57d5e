-- `are_apart`: the refusals in their order, then what the search says.
use mathlib.Core.Path.{refl, sym, ap, ◌∙◌}
use Rattle.axis.specs.declared.Search.{Search}
use Rattle.hull_links.proofs.Numbered.{some_broken, none_broken}
use Rattle.collide_outcome.proofs.Told.{refusal_is_told}
use Rattle.apart.specs.Question.{answered_question}
use Rattle.apart.specs.inner.Ends.{ends_apart}
use Rattle.apart.proofs.Asked.{refused_a, refused_b, refused_placed, may_search, says}
use Rattle.apart.proofs.are_apart.Goals as goal

pub returns-then-is_some : goal.returns-then-is_some
returns-then-is_some c = let g = c.args in let a = g.a.now in let b = g.b.now in
    let broken = some_broken c.first_broken_rule.result (sym c.is_some.ensures ∙ c.if-is_some.true) in
    c.refused.ensures ∙ refused_a a.size a.numbers.now a.links.now b.size b.numbers.now b.links.now g.transform (λ z. broken (c.first_broken_rule.ensures ∙ z))

pub returns-then-is_some-2 : goal.returns-then-is_some-2
returns-then-is_some-2 c = let g = c.args in let a = g.a.now in let b = g.b.now in
    let right = none_broken c.first_broken_rule.result (sym c.is_some.ensures ∙ c.if-is_some.false) in
    let broken = some_broken c.first_broken_rule-2.result (sym c.is_some-2.ensures ∙ c.if-is_some-2.true) in
    c.refused-then-is_some-2.ensures
    ∙ refused_b a.size a.numbers.now a.links.now b.size b.numbers.now b.links.now g.transform (sym c.first_broken_rule.ensures ∙ right)
    (λ z. broken (c.first_broken_rule-2.ensures ∙ z))

pub returns-in-Err : goal.returns-in-Err
returns-in-Err c = let g = c.args in let a = g.a.now in let b = g.b.now in
    let right_a = sym c.first_broken_rule.ensures ∙ none_broken c.first_broken_rule.result (sym c.is_some.ensures ∙ c.if-is_some.false) in
    let right_b = sym c.first_broken_rule-2.ensures ∙ none_broken c.first_broken_rule-2.result (sym c.is_some-2.ensures ∙ c.if-is_some-2.false) in
    let given = rw c.in-Err.is at c.placed_refusal.ensures in
    c.refused-in-Err.ensures ∙ refused_placed a.size a.numbers.now a.links.now b.size b.numbers.now b.links.now g.transform right_a right_b given
    (refusal_is_told c.in-Err.refusal)

pub compute_separating_axis-requires : goal.compute_separating_axis-requires
compute_separating_axis-requires c = let g = c.args in let a = g.a.now in let b = g.b.now in
    let right_a = sym c.first_broken_rule.ensures ∙ none_broken c.first_broken_rule.result (sym c.is_some.ensures ∙ c.if-is_some.false) in
    let right_b = sym c.first_broken_rule-2.ensures ∙ none_broken c.first_broken_rule-2.result (sym c.is_some-2.ensures ∙ c.if-is_some-2.false) in
    may_search a.size a.numbers.now a.links.now b.size b.numbers.now b.links.now g.transform right_a right_b (rw c.in-Ok.is at c.placed_refusal.ensures) refl

pub returns-in-Ok : goal.returns-in-Ok
returns-in-Ok c = let g = c.args in let a = g.a.now in let b = g.b.now in
    let right_a = sym c.first_broken_rule.ensures ∙ none_broken c.first_broken_rule.result (sym c.is_some.ensures ∙ c.if-is_some.false) in
    let right_b = sym c.first_broken_rule-2.ensures ∙ none_broken c.first_broken_rule-2.result (sym c.is_some-2.ensures ∙ c.if-is_some-2.false) in
    c.told.ensures ∙ ap (λ (answer : Search). answered_question (ends_apart answer)) c.compute_separating_axis.ensures
    ∙ says a.size a.numbers.now a.links.now b.size b.numbers.now b.links.now g.transform right_a right_b (rw c.in-Ok.is at c.placed_refusal.ensures) refl

-- `collide_core`: the capacity and the judged hulls pick the definition's case.
use Prim.Native.Nat.{ℕ}
use mathlib.Core.Path.{◌≡◌, sym, ap, ◌∙◌}
use lib.Signed.{lt_z}
use lib.IntN.{ℤ, pos}
use Rattle.manifold.specs.declared.Contact.{Contact}
use Rattle.hull_links.proofs.Numbered.{some_broken, none_broken}
use Rattle.collide_outcome.specs.Answers.{accepted, refused_of}
use Rattle.collide.proofs.Steps.{too_small, broken_a, broken_b, wide_same}
use mir.Syntax.{w32}
use mir.Val.{to_z, of_z}
use mir.ValLaws.{to_z-of_z}
use Rattle.collide.proofs.collide_core.Goals as goal

-- the capacity that is compared is read back from its bits, and it is the capacity
as_compared : (z : ℤ) → to_z w32 (of_z w32 z) ≡ z → lt_z z (pos 4) ≡ lt_z (to_z w32 (of_z w32 z)) (pos 4)
as_compared z same = ap (λ (y : ℤ). lt_z y (pos 4)) (sym same)

pub returns-then-capacity-lt4 : goal.returns-then-capacity-lt4
returns-then-capacity-lt4 c = let g = c.args in let a = g.a.now in let b = g.b.now in
    let read = as_compared g.capacity (to_z-of_z w32 g.capacity c.ranges.capacity) in
    c.accepted_with.ensures ∙ ap (λ (contact : Contact). accepted 0 contact g.cache) c.empty_contact.ensures
    ∙ too_small a.size a.numbers.now a.links.now b.size b.numbers.now b.links.now g.transform g.cache g.capacity (read ∙ c.if-capacity-lt4.true)

pub returns-then-is_some : goal.returns-then-is_some
returns-then-is_some c = let g = c.args in let a = g.a.now in let b = g.b.now in
    let read = as_compared g.capacity (to_z-of_z w32 g.capacity c.ranges.capacity) in
    let broken = some_broken c.first_broken_rule.result (sym c.is_some.ensures ∙ c.if-is_some.true) in
    c.refused.ensures ∙ ap (λ (n : ℕ). refused_of n g.cache) c.from.ensures
    ∙ broken_a a.size a.numbers.now a.links.now b.size b.numbers.now b.links.now g.transform g.cache g.capacity (read ∙ c.if-capacity-lt4.false)
    (λ q. broken (c.first_broken_rule.ensures ∙ q))

pub returns-then-is_some-2 : goal.returns-then-is_some-2
returns-then-is_some-2 c = let g = c.args in let a = g.a.now in let b = g.b.now in
    let read = as_compared g.capacity (to_z-of_z w32 g.capacity c.ranges.capacity) in
    let right = none_broken c.first_broken_rule.result (sym c.is_some.ensures ∙ c.if-is_some.false) in
    let broken = some_broken c.first_broken_rule-2.result (sym c.is_some-2.ensures ∙ c.if-is_some-2.true) in
    c.refused-then-is_some-2.ensures ∙ ap (λ (n : ℕ). refused_of n g.cache) c.from-then-is_some-2.ensures
    ∙ broken_b a.size a.numbers.now a.links.now b.size b.numbers.now b.links.now g.transform g.cache g.capacity (read ∙ c.if-capacity-lt4.false)
    (sym c.first_broken_rule.ensures ∙ right)
    (λ q. broken (c.first_broken_rule-2.ensures ∙ q))

pub collide_judged-requires : goal.collide_judged-requires
collide_judged-requires c = (
  sym c.first_broken_rule.ensures ∙ none_broken c.first_broken_rule.result (sym c.is_some.ensures ∙ c.if-is_some.false),
  sym c.first_broken_rule-2.ensures ∙ none_broken c.first_broken_rule-2.result (sym c.is_some-2.ensures ∙ c.if-is_some-2.false),
)

pub returns : goal.returns
returns c = let g = c.args in let a = g.a.now in let b = g.b.now in
    let read = as_compared g.capacity (to_z-of_z w32 g.capacity c.ranges.capacity) in
    c.collide_judged.ensures ∙ wide_same a.size a.numbers.now a.links.now b.size b.numbers.now b.links.now g.transform g.cache g.capacity
    (read ∙ c.if-capacity-lt4.false)

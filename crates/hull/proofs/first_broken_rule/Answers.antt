-- The parts are tried in the order of the rules; the first that fails names the rule. In each answer q1 says that H1 holds, z that no rule of the links is
-- broken.
use mathlib.Core.Path.{◌≡◌, sym, ◌∙◌}
use mathlib.Core.Bool.{true}
use Rattle.hull_links.specs.Rules.{h1, broken_links}
use Rattle.hull_links.proofs.Facts.{links_fit, numbers_fit}
use Rattle.hull_links.proofs.Numbered.{some_broken, none_broken}
use Rattle.hull.proofs.Answer.{sizes_broken, in_range, ringed, links_broken, numbers_broken, shell_broken, nothing_broken}
use Rattle.hull.proofs.first_broken_rule.Goals as goal

pub returns-then-not-sizes_right : goal.returns-then-not-sizes_right
returns-then-not-sizes_right c = sizes_broken _ _ _ (sym c.sizes_right.ensures ∙ c.if-not-sizes_right.true)

pub broken_link_rule-rule-requires : goal.broken_link_rule-rule-requires
broken_link_rule-rule-requires c = links_fit _ _ _ (sym c.sizes_right.ensures ∙ c.if-not-sizes_right.false)

pub returns-then-is_some : goal.returns-then-is_some
returns-then-is_some c = let q1 = sym c.sizes_right.ensures ∙ c.if-not-sizes_right.false in
    let q = c.broken_link_rule-rule.ensures in
    q ∙ links_broken _ _ _ q1 (λ w. some_broken _ (sym c.is_some.ensures ∙ c.if-is_some.true) (q ∙ w))

pub numbers_right-requires : goal.numbers_right-requires
numbers_right-requires c = let h = c.args.hull.now in
    let q1 : h1 h.size h.numbers.now h.links.now ≡ true = sym c.sizes_right.ensures ∙ c.if-not-sizes_right.false in
    let z : broken_links h.size h.links.now ≡ 0 = sym c.broken_link_rule-rule.ensures ∙ none_broken _ (sym c.is_some.ensures ∙ c.if-is_some.false) in
    (numbers_fit _ _ _ q1, links_fit _ _ _ q1, in_range _ _ z)

pub returns-then-not-numbers_right : goal.returns-then-not-numbers_right
returns-then-not-numbers_right c = let h = c.args.hull.now in
    let q1 : h1 h.size h.numbers.now h.links.now ≡ true = sym c.sizes_right.ensures ∙ c.if-not-sizes_right.false in
    let z : broken_links h.size h.links.now ≡ 0 = sym c.broken_link_rule-rule.ensures ∙ none_broken _ (sym c.is_some.ensures ∙ c.if-is_some.false) in
    numbers_broken _ _ _ q1 z (sym c.numbers_right.ensures ∙ c.if-not-numbers_right.true)

pub one_shell-requires : goal.one_shell-requires
one_shell-requires c = let h = c.args.hull.now in
    let q1 : h1 h.size h.numbers.now h.links.now ≡ true = sym c.sizes_right.ensures ∙ c.if-not-sizes_right.false in
    let z : broken_links h.size h.links.now ≡ 0 = sym c.broken_link_rule-rule.ensures ∙ none_broken _ (sym c.is_some.ensures ∙ c.if-is_some.false) in
    ringed _ _ (links_fit _ _ _ q1) z

pub returns-then-not-one_shell : goal.returns-then-not-one_shell
returns-then-not-one_shell c = let h = c.args.hull.now in
    let q1 : h1 h.size h.numbers.now h.links.now ≡ true = sym c.sizes_right.ensures ∙ c.if-not-sizes_right.false in
    let z : broken_links h.size h.links.now ≡ 0 = sym c.broken_link_rule-rule.ensures ∙ none_broken _ (sym c.is_some.ensures ∙ c.if-is_some.false) in
    shell_broken _ _ _ q1 z (sym c.numbers_right.ensures ∙ c.if-not-numbers_right.false) (sym c.one_shell.ensures ∙ c.if-not-one_shell.true)

pub returns : goal.returns
returns c = let h = c.args.hull.now in
    let q1 : h1 h.size h.numbers.now h.links.now ≡ true = sym c.sizes_right.ensures ∙ c.if-not-sizes_right.false in
    let z : broken_links h.size h.links.now ≡ 0 = sym c.broken_link_rule-rule.ensures ∙ none_broken _ (sym c.is_some.ensures ∙ c.if-is_some.false) in
    nothing_broken _ _ _ q1 z (sym c.numbers_right.ensures ∙ c.if-not-numbers_right.false) (sym c.one_shell.ensures ∙ c.if-not-one_shell.false)

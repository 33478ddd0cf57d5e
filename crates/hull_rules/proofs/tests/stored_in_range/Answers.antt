-- The stored edges are tried in turn.
use Rattle.std.proofs.Common.{◌≡◌, ◌∙◌, ap, ℕ, ◌+◌, get_or, arith, rules, tests}
use Rattle.std.specs.Prelude.{ltb}
use Rattle.std.proofs.lemmas.Iterator.{YieldsList-from_slice}
use Rattle.std.proofs.lemmas.Iterator.Search.{all_from_yields_List}
use Rattle.hull_links.proofs.Tests.{all_same}
use Rattle.hull_rules.specs.inner.Named.{stored_in_range}
use Rattle.hull_rules.proofs.Ranges.{all_in_list}
use Rattle.hull_rules.proofs.tests.stored_in_range.Goals as goal

pub returns : goal.returns
unfolding stored_in_range
returns c =
    let a = c.args in
    all_from_yields_List (λ e. ltb e a.h) _ _ _ c.all.ensures.ran (YieldsList-from_slice a.edges.now (cc)) (λ x b q k. search (rules, tests))
    ∙ all_in_list (λ e. ltb e a.h) a.edges.now 0
    ∙ all_same _ (stored_in_range a.edges.now 0 a.h) _
    (λ i l. let e : i ≡ 0 + i = omega arith in ap (λ (k : ℕ). ltb (get_or a.edges.now k 0) a.h) e)

-- Both twins of a pair are read and compared.
use mathlib.Core.Path.{refl, sym, ap₂, ◌∙◌}
use lib.Dec.{eqb}
use borrow.Author.Tests.{eq-eqb, ne_eqb}
use Rattle.hull_links.specs.Rules.{twins_at}
use Rattle.hull_links.proofs.Tests.{and_false_left, and_last}
use Rattle.hull_rules.proofs.tests.twins_at.Goals as goal

pub returns-then-twin_of-e : goal.returns-then-twin_of-e
unfolding twins_at
returns-then-twin_of-e c = sym (and_false_left _ _ (ne_eqb _ _ (λ q. c.if-twin_of-e.true (c.twin_of.ensures ∙ q))))

pub returns : goal.returns
unfolding twins_at
returns c = and_last _ _ _ (eq-eqb _ _ (sym c.twin_of.ensures ∙ c.if-twin_of-e.false)) (ap₂ eqb c.twin_of-2.ensures refl)

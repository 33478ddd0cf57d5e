-- `tries_edge`: no points, or a separation strictly above.
use mathlib.Core.Path.{sym, ap, ◌∙◌}
use borrow.Author.Tests.{eq-eqb}
use Rattle.std.specs.Prelude.{Option, Ok}
use Rattle.manifold.specs.declared.Contact.{Contact}
use Rattle.collide_outcome.specs.Told.{contact_or_empty, built_of}
use Rattle.collide_full.proofs.Cases.{tried_empty, tried_above}
use Rattle.collide_full.proofs.tries_edge.Goals as goal

pub returns-in_default : goal.returns-in_default
returns-in_default c = let g = c.args in
    tried_empty g.unit (built_of (Ok g.build)) g.edge (ap (λ (k : Option Contact). (contact_or_empty k).count) c.in_default.is)

pub returns-then-contact-eq0 : goal.returns-then-contact-eq0
returns-then-contact-eq0 c = let g = c.args in
    let counted = ap (λ (k : Option Contact). (contact_or_empty k).count) c.in-Some.is in
    eq-eqb _ _ c.if-contact-eq0.true ∙ tried_empty g.unit (built_of (Ok g.build)) g.edge (counted ∙ c.if-contact-eq0.true)

pub returns-else-contact-eq0 : goal.returns-else-contact-eq0
returns-else-contact-eq0 c = let g = c.args in
    let counted = ap (λ (k : Option Contact). (contact_or_empty k).count) c.in-Some.is in
    simp (c.linear_slop.ensures, c.float_of.ensures)
    (tried_above g.unit (built_of (Ok g.build)) g.edge (λ none. c.if-contact-eq0.false (sym counted ∙ none)))

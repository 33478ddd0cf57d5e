-- `carried`: each point by its own call; no point, and nothing is carried.
use mathlib.Core.Path.{◌≡◌}
use mathlib.Core.Bool.{true, false}
use lib.Dec.{eqb}
use borrow.Author.Tests.{eq-eqb, ne_eqb}
use Rattle.contacts.specs.inner.Carried.{carried_contact}
use Rattle.contacts.proofs.carried.carried.Goals as goal

pub returns-then-contact-eq0 : goal.returns-then-contact-eq0
unfolding carried_contact
returns-then-contact-eq0 c = let none : eqb c.args.contact.count 0 ≡ true = eq-eqb _ 0 c.if-contact-eq0.true in
    simp none

pub returns : goal.returns
unfolding carried_contact
returns c = let some : eqb c.args.contact.count 0 ≡ false = ne_eqb _ 0
    c.if-contact-eq0.false in
    simp (
      some,
      c.carried_if_used-p3.ensures,
      c.carried_if_used-p2.ensures,
      c.carried_if_used-p1.ensures,
      c.carried_if_used-p0.ensures,
      c.neg-normal.ensures,
      c.mul_mv.ensures,
      c.make_matrix_from_quat-matrix.ensures,
    )

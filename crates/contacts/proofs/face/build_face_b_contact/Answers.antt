-- `build_face_b_contact`: the contact on a face of A with the roles swapped, carried where there is one.
use mathlib.Core.Path.{refl, ap}
use Rattle.std.proofs.lemmas.Result.{err_from_is_err_and}
use Rattle.collide_outcome.specs.Told.{touches}
use Rattle.contacts.proofs.Turned.{b_apart, b_touching}
use Rattle.contacts.proofs.face.build_face_b_contact.Goals as goal

pub returns-in_err-built : goal.returns-in_err-built
returns-in_err-built c =
    let g = c.args in let a = g.a.now in let b = g.b.now in
    let p = err_from_is_err_and c.from_residual.result c.from_residual.ensures.1 in
    let found = rw c.in_err-built.was at c.build_face_a_contact.ensures in
    rw (p.1, p.2) (b_apart a.size a.numbers.now a.links.now b.size b.numbers.now b.links.now g.transform g.face g.vertex
    _ c.invert_transform-inverse.ensures _ found refl)

pub returns-in-None : goal.returns-in-None
returns-in-None c =
    let g = c.args in let a = g.a.now in let b = g.b.now in
    let found = rw c.in_ok-built.was at c.build_face_a_contact.ensures in
    b_apart a.size a.numbers.now a.links.now b.size b.numbers.now b.links.now g.transform g.face g.vertex
    _ c.invert_transform-inverse.ensures _ found (ap touches c.in-None.is)

pub returns-in-Some : goal.returns-in-Some
returns-in-Some c =
    let g = c.args in let a = g.a.now in let b = g.b.now in
    let found = rw c.in_ok-built.was at c.build_face_a_contact.ensures in
    let turned = b_touching a.size a.numbers.now a.links.now b.size b.numbers.now b.links.now g.transform g.face g.vertex
    _ c.invert_transform-inverse.ensures _ found (ap touches c.in-Some.is) in
    rw (c.carried.ensures, c.from.ensures) (simp c.in-Some.is at turned)

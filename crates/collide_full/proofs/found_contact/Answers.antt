-- `found_contact`: a refusal goes out as it is, anything else on to the pair of edges.
use mathlib.Core.Path.{refl, ◌∙◌}
use Rattle.std.proofs.lemmas.Result.{err_from_is_err_and}
use Rattle.collide_outcome.proofs.Told.{refusal_is_told}
use Rattle.collide_full.proofs.Cases.{face_refused, face_built}
use Rattle.collide_full.proofs.found_contact.Goals as goal

pub returns-in_err-build : goal.returns-in_err-build
returns-in_err-build c = let g = c.args in let a = g.a.now in let b = g.b.now in
    let p = err_from_is_err_and c.from_residual.result c.from_residual.ensures.1 in
    let found = g.found in
    let built = rw c.in_err-build.was at c.winner_contact.ensures in
    rw (p.1, p.2) (face_refused a.size a.numbers.now a.links.now b.size b.numbers.now b.links.now g.transform
    found.face_a found.face_b found.edge _ built (refusal_is_told c.in_err-build.field-0.0))

pub returns : goal.returns
returns c = let g = c.args in let a = g.a.now in let b = g.b.now in
    let found = g.found in
    let built = rw c.in_ok-build.was at c.winner_contact.ensures in
    c.with_edge.ensures ∙ face_built a.size a.numbers.now a.links.now b.size b.numbers.now b.links.now g.transform
    found.face_a found.face_b found.edge _ built refl

-- `instead`: the face contact stays where the pair is not tried, or made no point.
use mathlib.Core.Path.{◌≡◌, ◌∙◌, sym}
use mathlib.Core.Bool.{true, false}
use Rattle.std.specs.Prelude.{Ok}
use Rattle.collide_outcome.specs.Told.{built_of}
use Rattle.collide_outcome.proofs.Told.{touches_some}
use Rattle.collide_full.specs.Full.{tries_edge}
use Rattle.collide_full.proofs.Cases.{not_tried, pair_instead, pair_missed}
use Rattle.collide_full.proofs.instead.Goals as goal

pub returns-then-not-tries_edge : goal.returns-then-not-tries_edge
returns-then-not-tries_edge c = let g = c.args in let a = g.a.now in let b = g.b.now in
    let no : tries_edge a.size.unit (built_of (Ok g.build)) g.edge ≡ false = sym c.tries_edge.ensures ∙ c.if-not-tries_edge.true in
    not_tried a.size a.numbers.now a.links.now b.size b.numbers.now b.links.now g.transform (built_of (Ok g.build)) g.edge no

pub returns-then-is_some : goal.returns-then-is_some
returns-then-is_some c = let g = c.args in let a = g.a.now in let b = g.b.now in
    let p = c.pair_contact-pair in
    let yes : tries_edge a.size.unit (built_of (Ok g.build)) g.edge ≡ true = sym c.tries_edge.ensures ∙ c.if-not-tries_edge.false in
    pair_instead a.size a.numbers.now a.links.now b.size b.numbers.now b.links.now g.transform (built_of (Ok g.build))
    g.edge (built_of (Ok p.result)) p.ensures yes (touches_some p.result.contact ∙ sym c.is_some.ensures ∙ c.if-is_some.true)

pub returns : goal.returns
returns c = let g = c.args in let a = g.a.now in let b = g.b.now in
    let p = c.pair_contact-pair in
    let yes : tries_edge a.size.unit (built_of (Ok g.build)) g.edge ≡ true = sym c.tries_edge.ensures ∙ c.if-not-tries_edge.false in
    pair_missed a.size a.numbers.now a.links.now b.size b.numbers.now b.links.now g.transform (built_of (Ok g.build))
    g.edge (built_of (Ok p.result)) p.ensures yes (touches_some p.result.contact ∙ sym c.is_some.ensures ∙ c.if-is_some.false)

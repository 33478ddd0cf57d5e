-- `with_edge`: the case of the pair picks the definition's, and its numbers are in range.
use mathlib.Core.Path.{sym, ap, ◌∙◌}
use Rattle.std.specs.Prelude.{Ok}
use Rattle.collide_outcome.specs.Told.{built_of}
use Rattle.collide_full.specs.Full.{with_edge}
use Rattle.collide_full.proofs.Cases.{pair_in}
use Rattle.collide_full.proofs.with_edge.Goals as goal

pub instead-requires : goal.instead-requires
instead-requires c = let inside = pair_in _ _ _ _ c.in-Some.is c.requires.2 in
    (c.requires.0, c.requires.1, inside.0, inside.1)

pub returns-in-Some : goal.returns-in-Some
unfolding with_edge
returns-in-Some c = let g = c.args in let a = g.a.now in let b = g.b.now in
    c.instead.ensures ∙ sym (ap (with_edge a.size a.numbers.now a.links.now b.size b.numbers.now b.links.now g.transform (built_of (Ok g.build))) c.in-Some.is)

pub returns-in-None : goal.returns-in-None
unfolding with_edge
returns-in-None c = let g = c.args in let a = g.a.now in let b = g.b.now in
    sym (ap (with_edge a.size a.numbers.now a.links.now b.size b.numbers.now b.links.now g.transform (built_of (Ok g.build))) c.in-None.is)

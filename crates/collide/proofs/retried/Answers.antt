-- `retried`: the type picks the axis, and what the cache names is there.
use mathlib.Core.Path.{◌∙◌}
use Rattle.collide_refusals.proofs.Cases.{face_a_there, face_b_there, edges_there}
use Rattle.collide.proofs.Steps.{retried_2, retried_3, retried_4, retried_none}
use Rattle.collide.proofs.retried.Goals as goal

pub cached_face_a-requires : goal.cached_face_a-requires
cached_face_a-requires c = let g = c.args in let a = g.a.now in let b = g.b.now in
    (c.requires.0, c.requires.1, face_a_there a.size b.size g.cache c.requires.2 c.in-2.is)

pub cached_face_b-requires : goal.cached_face_b-requires
cached_face_b-requires c = let g = c.args in let a = g.a.now in let b = g.b.now in
    (c.requires.0, c.requires.1, face_b_there a.size b.size g.cache c.requires.2 c.in-3.is)

pub cached_edge-requires : goal.cached_edge-requires
cached_edge-requires c = let g = c.args in let a = g.a.now in let b = g.b.now in
    let there = edges_there a.size b.size g.cache c.requires.2 c.in-4.is c.requires.0.links_fit.h_even c.requires.1.links_fit.h_even in
    (c.requires.0, c.requires.1, there.0, there.1)

pub returns-in-2 : goal.returns-in-2
returns-in-2 c = let g = c.args in let a = g.a.now in let b = g.b.now in
    c.cached_face_a.ensures ∙ retried_2 a.size a.numbers.now a.links.now b.size b.numbers.now b.links.now g.transform g.cache c.in-2.is

pub returns-in-3 : goal.returns-in-3
returns-in-3 c = let g = c.args in let a = g.a.now in let b = g.b.now in
    c.cached_face_b.ensures ∙ retried_3 a.size a.numbers.now a.links.now b.size b.numbers.now b.links.now g.transform g.cache c.in-3.is

pub returns-in-4 : goal.returns-in-4
returns-in-4 c = let g = c.args in let a = g.a.now in let b = g.b.now in
    c.cached_edge.ensures ∙ retried_4 a.size a.numbers.now a.links.now b.size b.numbers.now b.links.now g.transform g.cache c.in-4.is

pub returns-in-0 : goal.returns-in-0
returns-in-0 c = let g = c.args in let a = g.a.now in let b = g.b.now in
    retried_none a.size a.numbers.now a.links.now b.size b.numbers.now b.links.now g.transform g.cache (search) (search) (search)

-- `full_search`: the case of the search's answer picks the definition's, and the numbers of what was found are in range.
use mathlib.Core.Path.{sym, ap, ◌∙◌}
use Rattle.collide_full.specs.Full.{after_search, full_of}
use Rattle.collide_full.proofs.Cases.{found_in}
use Rattle.collide_full.proofs.full_search.Goals as goal

pub found_contact-requires : goal.found_contact-requires
found_contact-requires c = let search = c.compute_separating_axis in
    let inside = found_in c.args.transform c.requires.0 c.requires.1 _ (sym c.in-Found.is ∙ search.ensures) in
    (c.requires.0, c.requires.1, inside.0, inside.1, inside.2)

pub returns-in-Apart : goal.returns-in-Apart
unfolding full_of after_search
returns-in-Apart c = let g = c.args in let a = g.a.now in let b = g.b.now in
    c.apart_built.ensures ∙ ap (after_search a.size a.numbers.now a.links.now b.size b.numbers.now b.links.now g.transform)
    (sym c.in-Apart.is ∙ c.compute_separating_axis.ensures)

pub returns-in-Found : goal.returns-in-Found
unfolding full_of after_search
returns-in-Found c = let g = c.args in let a = g.a.now in let b = g.b.now in
    c.found_contact.ensures ∙ ap (after_search a.size a.numbers.now a.links.now b.size b.numbers.now b.links.now g.transform)
    (sym c.in-Found.is ∙ c.compute_separating_axis.ensures)

-- `normals`: three fills, one a coordinate.
use Rattle.hull_links.specs.Links.{planes_from}
use Rattle.axis_lists.proofs.Fills.{same_fill, coordinate}
use Rattle.axis_lists.proofs.Lists.{three}
use Rattle.hull.specs.Numbers.{plane_at}
use Rattle.axis_lists.proofs.normals.Goals as goal

pub returns : goal.returns
unfolding plane_at
returns c =
    let h = c.args.hull.now in
    let list = c.planes_from-from.ensures in
    three (λ f. (plane_at h.size h.numbers.now f).normal) h.size.faces _ _ _ _ c.requires.1 c.requires.0.f_high
    (same_fill c.fill_normals.ensures (λ k. rw list))
    (same_fill c.fill_normals-2.ensures (λ k. rw list (coordinate h.numbers.now (planes_from h.size) 1 k)))
    (same_fill c.fill_normals-3.ensures (λ k. rw list (coordinate h.numbers.now (planes_from h.size) 2 k)))

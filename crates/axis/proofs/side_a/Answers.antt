-- `side_a`: acceptance bounds what the face phase reads, and the turn is the transpose of the rotation.
use Rattle.axis.proofs.Ready.{facing_a}
use Rattle.axis.specs.Search.{side_of_a}
use Rattle.rotation.specs.Rotation.{transpose_of}
use mathlib.Core.Path.{ap, ◌∙◌}
use Rattle.axis.proofs.side_a.Goals as goal

pub search_faces-requires : goal.search_faces-requires
search_faces-requires c = let p = c.requires in
    facing_a _ p.0 p.1 p.2 _ (c.transpose.ensures ∙ ap transpose_of p.3)

pub returns : goal.returns
unfolding side_of_a
returns c = let p = c.requires in
    simp (c.search_faces.ensures, c.transpose.ensures, p.3)

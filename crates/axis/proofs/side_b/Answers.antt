-- `side_b`: acceptance bounds what the face phase reads.
use Rattle.axis.proofs.Ready.{facing_b}
use Rattle.axis.specs.Search.{side_of_b}
use Rattle.axis.proofs.side_b.Goals as goal

pub search_faces-requires : goal.search_faces-requires
search_faces-requires c = let p = c.requires in facing_b _ p.0 p.1 p.2 _ p.3

pub returns : goal.returns
unfolding side_of_b
returns c = simp (c.search_faces.ensures, c.requires.3)
